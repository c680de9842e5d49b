use Rattle.std.proofs.Common.{◌≡◌, ℕ, ◌+◌, ◌*◌, ◌<◌, ◌≤◌, length}
use Rattle.gs_koetter.specs.Shapes.{AreCancelled, slot}
use Rattle.gs_koetter.proofs.cancelling.cancel_all.Given as goal

-- The first curves are cancelled, and the others are as they were.
abbrev pub invariant-curves : goal.invariant-curves
invariant-curves g l = record {
  done : (j : ℕ) → j < l.slot-index → AreCancelled g.F.Field.ring l.place l.inverse l.pivot (slot l.fn.curves j) (slot l.curves j);
  rest : (j : ℕ) → l.slot-index ≤ j → slot l.curves j ≡ slot l.fn.curves j;
  count : length l.curves ≡ length l.fn.curves;
  products : l.prods ≤ l.fn.prods + l.slot-index * (1 + l.pivot.orders + l.pivot.len);
}
