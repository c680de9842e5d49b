use Rattle.std.proofs.Common.{◌≡◌, ℕ, ◌+◌, ◌*◌, ◌<◌, ◌≤◌, length}
use Rattle.gs_koetter.specs.Shapes.{slot}
use Rattle.gs_koetter.specs.States.{AreDerived, IsScratch, derive_products}
use Rattle.gs_koetter.proofs.points.derive_all.Given as goal

-- The first curves have their derivatives, and the others are as they were.
abbrev pub invariant-curves : goal.invariant-curves
invariant-curves g l = record {
  done : (j : ℕ) → j < l.slot-index → AreDerived g.F.Field.ring l.frame.terms.w l.frame.terms.e l.frame.width l.frame.orders.e l.fn.scratch.xs.items l.fn.scratch.ys.items (slot l.fn.curves j) (slot l.curves j);
  rest : (j : ℕ) → l.slot-index ≤ j → slot l.curves j ≡ slot l.fn.curves j;
  count : length l.curves ≡ length l.fn.curves;
  scratch : IsScratch l.frame l.scratch;
  xs : l.scratch.xs.items ≡ l.fn.scratch.xs.items;
  ys : l.scratch.ys.items ≡ l.fn.scratch.ys.items;
  products : l.prods ≤ l.fn.prods + l.slot-index * derive_products l.frame.terms.e l.frame.width l.frame.orders.e;
}
