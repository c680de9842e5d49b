use Rattle.std.proofs.Common.{◌≡◌, ℕ, ◌+◌, ◌≤◌, ◌<◌, length}
use Rattle.algebra.specs.Roots.{total}
use Rattle.bi_poly.specs.Rows.{HaveRoom, cell}
use Rattle.bi_poly.proofs.multiples.add_rows.Given as goal

-- The rows before j have what is added, and those from j on are as they were.
abbrev pub invariant-rows : goal.invariant-rows
invariant-rows g l = record {
  sums : (i h : ℕ) → h < l.j → cell g.F.Field.ring l.rows.items i h ≡ g.F.Field.ring.plus (cell g.F.Field.ring l.fn.rows.items i h) (g.F.Field.ring.times l.factor (cell g.F.Field.ring l.others i h));
  same : (i h : ℕ) → l.j ≤ h → cell g.F.Field.ring l.rows.items i h ≡ cell g.F.Field.ring l.fn.rows.items i h;
  count : length l.rows.items ≡ length l.fn.rows.items;
  room : HaveRoom g.F.Field.ring l.others l.count l.rows.items;
  none : l.j ≡ 0 → l.prods ≡ l.fn.prods;
  products : (most : ℕ → ℕ) → ((i h : ℕ) → most h ≤ i → cell g.F.Field.ring l.others i h ≡ g.F.Field.ring.nil) → l.prods ≤ l.fn.prods + total l.j most;
}
