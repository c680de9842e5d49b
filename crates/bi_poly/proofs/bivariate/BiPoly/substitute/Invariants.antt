use Rattle.algebra.specs.Lists.{coefficients, IsListOf}
use Rattle.bi_poly.proofs.SubstitutedRows.{substituted_from}
use Rattle.bi_poly.proofs.bivariate.BiPoly.substitute.Given as goal

-- The rows from j on, with f in place of y.
abbrev pub invariant-rows : goal.invariant-rows
invariant-rows g l = IsListOf g.F.Field.ring (substituted_from g.F.Field.ring l.self-inside.rows.items (coefficients g.F.Field.ring l.f) l.j) l.value
