use Rattle.std.proofs.Common.{◌≡◌, ◌≢◌, ℕ, ◌<◌, ◌≤◌}
use Rattle.bi_poly.specs.Rows.{cell}
use Rattle.bi_poly.proofs.stripping.least_power.Given as goal

-- The least power among the rows before j.
abbrev pub invariant-rows : goal.invariant-rows
invariant-rows g l = record {
  zeros : (i h : ℕ) → h < l.j → i < l.least → cell g.F.Field.ring l.rows i h ≡ g.F.Field.ring.nil;
  reached : l.least < 65536 → (h : ℕ) × (cell g.F.Field.ring l.rows l.least h ≢ g.F.Field.ring.nil);
  within : l.least ≤ 65536;
}
