use Rattle.std.proofs.Common.{◌≡◌, ◌+◌, ◌<◌, ◌≤◌, if◌then◌else◌}
use Rattle.algebra.specs.Binomials.{has_bits}
use Rattle.algebra.specs.Bivariate.{greatest, x_power, x_power_at}
use Rattle.algebra.specs.Roots.{total}
use Rattle.algebra.proofs.Horner.{nested_from}
use Rattle.bi_poly.proofs.RowDerivatives.{row_derivative}
use Rattle.bi_poly.proofs.bivariate.BiPoly.hasse.Given as goal

-- The value of the rows from j on whose binomials are odd. Where v is past the last row, j stays there.
abbrev pub invariant-rows : goal.invariant-rows
invariant-rows g l = record {
  value : l.value ≡ nested_from g.F.Field.ring l.height
      (λ j. if has_bits j l.v then row_derivative g.F.Field.ring l.self-inside.rows.items (greatest x_power l.self + 1) l.a l.u j else g.F.Field.ring.nil) l.b l.j;
  place : l.j < l.height → l.v ≤ l.j;
  products : l.prods + total l.j (λ j. greatest (x_power_at j) l.self + 2) ≤ l.fn.prods + total l.height (λ j. greatest (x_power_at j) l.self + 2);
  none : l.height ≡ 0 → l.prods ≡ l.fn.prods;
}
