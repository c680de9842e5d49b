use Rattle.std.proofs.Common.{◌≡◌, true, false, sym, ◌∙◌, arith, rules, below_more}
use Rattle.linear_solve.proofs.solution.free_column.Goals as goal

pub loop-column-preserved : goal.loop-column-preserved
loop-column-preserved g c = below_more _ _ c.loop-column.invariant (λ f. let no : false ≡ true = sym c.if-is_free.false ∙ c.is_free.ensures.1 f in absurd (search rules))

pub returns-clause-none : goal.returns-clause-none
returns-clause-none g c = λ h k l f. c.loop-column.invariant k (omega (arith, c.loop-column-test.false)) f
