use Rattle.std.proofs.Common.{◌≡◌, ℕ, ◌+◌, ◌<◌, ◌≤◌, length}
use Rattle.bi_poly.specs.Rows.{cell}
use Rattle.bi_poly.proofs.stripping.drop_powers.Given as goal

-- The rows before j have lost their first coefficients.
abbrev pub invariant-rows : goal.invariant-rows
invariant-rows g l = record {
  dropped : (i h : ℕ) → h < l.j → cell g.F.Field.ring l.rows.items i h ≡ cell g.F.Field.ring l.fn.rows.items (i + l.count) h;
  same : (i h : ℕ) → l.j ≤ h → cell g.F.Field.ring l.rows.items i h ≡ cell g.F.Field.ring l.fn.rows.items i h;
  count : length l.rows.items ≡ length l.fn.rows.items;
}
