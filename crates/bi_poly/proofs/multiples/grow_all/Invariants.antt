use Rattle.std.proofs.Common.{◌≡◌, ℕ, length}
use Rattle.bi_poly.specs.Rows.{HaveRoom, cell}
use Rattle.bi_poly.proofs.multiples.grow_all.Given as goal

-- No coefficient has changed, and the rows before j are long enough.
abbrev pub invariant-rows : goal.invariant-rows
invariant-rows g l = record {
  same : (i h : ℕ) → cell g.F.Field.ring l.rows.items i h ≡ cell g.F.Field.ring l.fn.rows.items i h;
  count : length l.rows.items ≡ length l.fn.rows.items;
  room : HaveRoom g.F.Field.ring l.others l.j l.rows.items;
}
