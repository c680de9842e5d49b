use Rattle.std.proofs.Common.{◌≡◌, ℕ, ◌≤◌}
use Rattle.bi_poly.specs.Rows.{cell}
use Rattle.bi_poly.proofs.rows.height.Given as goal

-- From row j on there are only zeros.
abbrev pub invariant-rows : goal.invariant-rows
invariant-rows g l = (i k : ℕ) → l.j ≤ k → cell g.F.Field.ring l.rows i k ≡ g.F.Field.ring.nil
