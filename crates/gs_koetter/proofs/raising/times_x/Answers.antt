use Rattle.std.proofs.Common.{◌≡◌, ◌+◌, ◌*◌, ap, arith}
use Rattle.decoding_terms.specs.Parameters.{term_count}
use Rattle.gs_koetter.proofs.Runs.{all_moved, inside_more, none_moved, one_more, past_moved}
use Rattle.gs_koetter.proofs.raising.times_x.Goals as goal

pub runs-init : goal.runs-init
runs-init g c = none_moved g.F.Field.ring c.args.w c.args.len c.args.source.now c.args.target.now c.requires.zeros

pub overflow_sub-len : goal.overflow_sub-len
overflow_sub-len g c = c.runs.invariant.inside

pub copy_run-requires-clause-source : goal.copy_run-requires-clause-source
copy_run-requires-clause-source g c =
    omega (arith, c.requires.inside, inside_more c.runs.from c.args.len (c.args.w * (c.runs.q + 1)) c.min-count.result c.runs.invariant.inside c.min-count.ensures)

pub runs-preserved : goal.runs-preserved
runs-preserved g c =
    one_more g.F.Field.ring c.args.w c.args.len c.args.source.now c.requires.some c.runs.from c.runs.q c.min-count.result c.runs.target c.copy_run.new.target c.runs.invariant c.min-count.ensures c.copy_run.ensures.each c.copy_run.ensures.before c.copy_run.ensures.after

pub returns-clause-moved : goal.returns-clause-moved
returns-clause-moved g c =
    all_moved g.F.Field.ring c.args.w c.args.len c.args.source.now c.requires.some c.runs.from c.runs.q c.runs.target c.runs.invariant
    (let is : c.runs.q ≡ c.args.runs = omega (arith, c.runs-test.false, c.runs.auto.q-end) in omega (arith, c.requires.all, ap (λ n. term_count c.args.w (c.args.w * n)) is))

pub returns-clause-past : goal.returns-clause-past
returns-clause-past g c =
    past_moved g.F.Field.ring c.args.w c.args.len c.args.source.now c.requires.some c.runs.from c.runs.q c.runs.target c.runs.invariant
    (let is : c.runs.q ≡ c.args.runs = omega (arith, c.runs-test.false, c.runs.auto.q-end) in omega (arith, c.requires.all, ap (λ n. term_count c.args.w (c.args.w * n)) is))
    (λ p l. c.requires.last p (omega (arith, l, c.runs.auto.q-end)))

pub returns-clause-others : goal.returns-clause-others
returns-clause-others g c = c.runs.invariant.others
