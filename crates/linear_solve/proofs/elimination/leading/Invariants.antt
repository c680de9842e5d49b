use Rattle.algebra.specs.Lists.{coefficients}
use Rattle.system_terms.specs.Systems.{IsZero}
use Rattle.linear_solve.proofs.elimination.leading.Given as goal

-- Zeros so far.
abbrev pub invariant-columns : goal.invariant-columns
invariant-columns g l = IsZero g.F.Field.ring l.column (coefficients g.F.Field.ring l.row)
