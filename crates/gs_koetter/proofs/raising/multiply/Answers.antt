use Rattle.gs_koetter.proofs.Raised.{raised_by_runs}
use Rattle.gs_koetter.proofs.raising.multiply.Goals as goal

pub returns-clause-product : goal.returns-clause-product
returns-clause-product g c =
    let terms = c.args.terms.now in
    raised_by_runs g.F.Field.ring terms.w terms.e c.args.len terms.quotients.items terms.terms.items c.args.source.now c.times_x.new.target terms.quotients_are terms.terms_are c.requires.source c.requires.rest
    c.times_x.ensures.moved c.times_x.ensures.past c.times_x.ensures.others c.args.a c.add_front.new.target c.add_front.ensures.sum
