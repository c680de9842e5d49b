use Rattle.std.proofs.Common.{◌≡◌, ◌≢◌, ◌⊎◌, ℕ, ◌+◌, ◌*◌, ◌<◌, ◌≤◌}
use Rattle.bi_poly.specs.Rows.{cell}
use Rattle.bi_poly.proofs.bivariate.BiPoly.weighted_degree.Given as goal

-- The greatest among the rows before j.
abbrev pub invariant-rows : goal.invariant-rows
invariant-rows g l = record {
  most : (i h : ℕ) → h < l.j → cell g.F.Field.ring l.self-inside.rows.items i h ≢ g.F.Field.ring.nil → i + l.w * h ≤ l.greatest;
  reached : (l.greatest ≡ 0) ⊎ ((i : ℕ) × (h : ℕ) × (cell g.F.Field.ring l.self-inside.rows.items i h ≢ g.F.Field.ring.nil) × (l.greatest ≡ i + l.w * h));
}
