use Rattle.std.proofs.Common.{◌≡◌, ℕ, ◌+◌, ◌*◌, ◌<◌, ◌≤◌}
use Rattle.algebra.specs.Lists.{coefficients}
use Rattle.bi_poly.specs.Rows.{ArePowers, cell}
use Rattle.bi_poly.proofs.ShiftedRows.{row_sum}
use Rattle.bi_poly.proofs.shifting.shifted_row.Given as goal

-- What the rows before j give.
abbrev pub invariant-rows : goal.invariant-rows
invariant-rows g l = record {
  before : (k : ℕ) → k < l.h → coefficients g.F.Field.ring l.row k ≡ g.F.Field.ring.nil;
  from : (x : g.row.F.Denot) → ArePowers g.F.Field.ring x l.powers → (k : ℕ) → coefficients g.F.Field.ring l.row (l.h + k) ≡ row_sum g.F.Field.ring l.rows l.j x l.h k;
  products : (most : ℕ) → ((i j : ℕ) → most ≤ i → cell g.F.Field.ring l.rows i j ≡ g.F.Field.ring.nil) → l.prods + most ≤ l.fn.prods + l.j * most;
}
