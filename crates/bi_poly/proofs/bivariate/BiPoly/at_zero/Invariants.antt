use Rattle.uni_poly.proofs.Filling.{IsFilled}
use Rattle.bi_poly.specs.Rows.{cell}
use Rattle.bi_poly.proofs.bivariate.BiPoly.at_zero.Given as goal

-- The first j coefficients of x^0.
abbrev pub invariant-rows : goal.invariant-rows
invariant-rows g l = IsFilled g.F.Field.ring (λ k. cell g.F.Field.ring l.self-inside.rows.items 0 k) l.j l.column.items
