use Rattle.std.proofs.Common.{◌<◌, length, sym, ◌∙◌, arith, rules, below_more}
use Rattle.linear_solve.proofs.Solved.{column_at}
use Rattle.linear_solve.proofs.solution.is_free.Goals as goal

pub returns-then-pivot-column : goal.returns-then-pivot-column
returns-then-pivot-column g c =
    let inside : c.pivots.pivot-index < length c.args.pivots.now = omega arith in
    (λ h. absurd (search rules), λ f. absurd (f c.pivots.pivot-index inside (column_at g.F.Field.ring c.args.pivots.now c.pivots.pivot-index c.pivot-item.result inside c.pivot-item.is ∙ c.if-pivot-column.true)))

pub pivots-preserved : goal.pivots-preserved
pivots-preserved g c =
    let inside : c.pivots.pivot-index < length c.args.pivots.now = omega arith in
    below_more _ _ c.pivots.invariant (λ e. c.if-pivot-column.false (sym (column_at g.F.Field.ring c.args.pivots.now c.pivots.pivot-index c.pivot-item.result inside c.pivot-item.is) ∙ e))
