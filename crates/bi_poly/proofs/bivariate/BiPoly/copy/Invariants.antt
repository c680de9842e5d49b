use Rattle.std.proofs.Common.{◌≡◌, take}
use Rattle.bi_poly.proofs.bivariate.BiPoly.copy.Given as goal

-- The first j rows.
abbrev pub invariant-rows : goal.invariant-rows
invariant-rows g l = l.rows.items ≡ take l.j l.self-inside.rows.items
