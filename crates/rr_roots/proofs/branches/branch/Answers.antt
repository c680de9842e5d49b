use Rattle.rr_roots.proofs.Branching.{reduced_nonzero, branch_of}
use Rattle.rr_roots.proofs.branches.branch.Goals as goal

pub strip_x-requires : goal.strip_x-requires
strip_x-requires g c = c.in_ok-child.ensures.nonzero (reduced_nonzero g.F.Field.ring c.args.q.now c.requires.reduced)

pub returns-clause-branch : goal.returns-clause-branch
returns-clause-branch g c =
    let met = g.met.F.Field in
    branch_of g.F.Field.ring met.field g.F.Field.number met.number_nil met.same c.args.q.now c.in_ok-child.child c.strip_x.new.self c.args.constant c.strip_x.result c.in_ok-child.ensures.value
    c.strip_x.ensures.power c.strip_x.ensures.divided c.requires.root
