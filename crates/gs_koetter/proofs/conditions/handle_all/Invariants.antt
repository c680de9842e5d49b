use Rattle.std.proofs.Common.{◌≡◌, ℕ, ◌+◌, ◌*◌, ◌≤◌, length}
use Rattle.koetter_terms.specs.State.{Handled}
use Rattle.gs_koetter.specs.Shapes.{HaveShape, IsSpare}
use Rattle.gs_koetter.specs.States.{IsState, step_products}
use Rattle.gs_koetter.proofs.conditions.handle_all.Given as goal

-- The first orders are handled.
abbrev pub invariant-orders : goal.invariant-orders
invariant-orders g l = record {
  count : length l.curves ≡ length l.fn.curves;
  shape : HaveShape g.F.Field.ring l.frame.terms.w l.frame.terms.e l.frame.orders.e l.curves;
  spare : IsSpare l.frame.terms.w l.frame.terms.e l.frame.orders.e l.spare;
  state : (i handled : ℕ) (points : ℕ → g.row.F.Denot × g.row.F.Denot) (b : g.row.F.Denot) → points i ≡ (l.a, b)
      → IsState g.F.Field.ring l.frame.terms.w l.frame.terms.e (length l.fn.curves) l.frame.orders.e (Handled points l.frame.orders.e i 0) l.a b handled l.fn.curves
      → IsState g.F.Field.ring l.frame.terms.w l.frame.terms.e (length l.fn.curves) l.frame.orders.e (Handled points l.frame.orders.e i l.place) l.a b (handled + l.place) l.curves;
  products : l.prods ≤ l.fn.prods + l.place * step_products l.frame.terms.w l.frame.terms.e l.frame.orders.e (length l.fn.curves);
}
