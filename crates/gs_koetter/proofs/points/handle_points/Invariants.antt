use Rattle.std.proofs.Common.{◌≡◌, ◌+◌, ◌*◌, ◌≤◌, length}
use Rattle.decoding_terms.specs.Parameters.{term_count}
use Rattle.koetter_terms.specs.State.{Handled}
use Rattle.gs_koetter.specs.Shapes.{HaveShape, IsSpare}
use Rattle.gs_koetter.specs.States.{IsBare, IsScratch, point_at, point_products}
use Rattle.gs_koetter.proofs.points.handle_points.Given as goal

-- The first points are handled.
abbrev pub invariant-points : goal.invariant-points
invariant-points g l = record {
  shape : HaveShape g.F.Field.ring l.frame.terms.w l.frame.terms.e l.frame.orders.e l.curves;
  count : length l.curves ≡ length l.fn.curves;
  spare : IsSpare l.frame.terms.w l.frame.terms.e l.frame.orders.e l.spare;
  scratch : IsScratch l.frame l.scratch;
  state : IsBare g.F.Field.ring l.frame.terms.w l.frame.terms.e l.frame.width (Handled (point_at g.F.Field.ring l.points) l.frame.orders.e l.i 0) (l.i * term_count 1 l.frame.orders.e) l.curves;
  products : l.prods ≤ l.fn.prods + l.i * point_products l.frame.terms.w l.frame.terms.e l.frame.width l.frame.orders.e;
}
