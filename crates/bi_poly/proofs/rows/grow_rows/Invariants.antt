use Rattle.std.proofs.Common.{◌≡◌, ℕ, ◌≤◌, length}
use Rattle.bi_poly.specs.Rows.{cell}
use Rattle.bi_poly.proofs.rows.grow_rows.Given as goal

-- No coefficient has changed, and there are as many rows as were counted.
abbrev pub invariant-rows : goal.invariant-rows
invariant-rows g l = record {
  same : (i j : ℕ) → cell g.F.Field.ring l.rows.items i j ≡ cell g.F.Field.ring l.fn.rows.items i j;
  count : l._row ≤ length l.rows.items;
}
