use Rattle.std.proofs.Common.{◌≡◌, ℕ, ◌<◌, Some}
use Rattle.gs_koetter.specs.declared.curve.Curve.{Curve}
use Rattle.gs_koetter.specs.Shapes.{slot}
use Rattle.gs_koetter.proofs.koetter.first_kept.Given as goal

-- No curve is kept before.
abbrev pub invariant-curves : goal.invariant-curves
invariant-curves g l = (j : ℕ) (c : Curve g.row.F.Denot) → j < l.p → slot l.curves j ≡ Some c → ⊥
