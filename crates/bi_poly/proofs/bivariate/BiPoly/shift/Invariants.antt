use Rattle.std.proofs.Common.{◌≡◌, ◌+◌, ◌-◌, ◌*◌, ◌≤◌, length}
use Rattle.algebra.specs.Bivariate.{greatest, x_power}
use Rattle.bi_poly.proofs.ShiftedRows.{IsRowCount, IsShifted}
use Rattle.bi_poly.proofs.bivariate.BiPoly.shift.Given as goal

-- The rows before h. There is a power for each row up to the last that is not zero.
abbrev pub invariant-rows : goal.invariant-rows
invariant-rows g l = record {
  count : IsRowCount g.F.Field.ring l.self-inside.rows.items l.self (length l.powers.items);
  shifted : IsShifted g.F.Field.ring l.self-inside.rows.items (length l.powers.items) l.fn.g l.h l.rows.items;
  products : l.prods ≤ l.fn.prods + (length l.powers.items + l.h * ((length l.powers.items - 1) * (greatest x_power l.self + 1)));
  none : length l.powers.items ≡ 0 → l.prods ≡ l.fn.prods;
}
