use Rattle.std.proofs.Common.{◌*◌, length, drop, ◌∙◌, sym, ap, subst, arith}
use Rattle.decoding_terms.specs.Parameters.{term_count}
use Rattle.koetter_terms.specs.State.{Handled}
use Rattle.gs_koetter.specs.Shapes.{HaveShape, slot}
use Rattle.gs_koetter.specs.States.{IsBare, point_at}
use Rattle.gs_koetter.proofs.Beginning.{begun_bare, begun_count, begun_shape}
use Rattle.gs_koetter.proofs.Ending.{result_of, some_kept, written_back}
use Rattle.gs_koetter.proofs.koetter.kept_curve.Goals as goal

pub handle_points-requires-clause-shape : goal.handle_points-requires-clause-shape
handle_points-requires-clause-shape g c =
    let frame = c.args.frame.now in
    subst (HaveShape g.F.Field.ring frame.terms.w frame.terms.e frame.orders.e) (sym c.deref_mut.ensures.value)
    (begun_shape g.F.Field.ring frame.terms.w frame.terms.e frame.orders.e frame.width c.in_ok-curves.curves.items c.in_ok-curves.ensures)

pub handle_points-requires-clause-count : goal.handle_points-requires-clause-count
handle_points-requires-clause-count g c =
    let frame = c.args.frame.now in
    ap length c.deref_mut.ensures.value ∙ begun_count g.F.Field.ring frame.terms.w frame.terms.e frame.orders.e frame.width c.in_ok-curves.curves.items c.in_ok-curves.ensures

pub handle_points-requires-clause-state : goal.handle_points-requires-clause-state
handle_points-requires-clause-state g c =
    let R = g.F.Field.ring in
    let frame = c.args.frame.now in
    subst (IsBare R frame.terms.w frame.terms.e frame.width (Handled (point_at R c.args.points.now) frame.orders.e 0 0) 0) (sym c.deref_mut.ensures.value)
    (begun_bare R frame.terms.w frame.terms.e frame.orders.e frame.width c.in_ok-curves.curves.items c.in_ok-curves.ensures g.met.F.Field.field (point_at R c.args.points.now))

pub taken-requires : goal.taken-requires
taken-requires g c =
    let R = g.F.Field.ring in
    let frame = c.args.frame.now in
    let s = frame.orders.e in
    let back = written_back c.handle_points.new.curves (drop (length c.handle_points.new.curves) c.in_ok-curves.curves.items) c.in_ok-curves.curves.len
    (omega (arith, c.handle_points.ensures.count, ap length c.deref_mut.ensures.value, c.in_ok-curves.curves.ok.0)) in
    let found = some_kept R frame.terms.w frame.terms.e frame.width s (Handled (point_at R c.args.points.now) s (length c.args.points.now) 0) (length c.args.points.now * term_count 1 s) c.handle_points.new.curves
    frame.terms.some_weight frame.all_powers c.requires c.handle_points.ensures.state in
    (found.0, found.1, ap (λ t. slot t found.0) back ∙ found.2)

pub returns-clause-result : goal.returns-clause-result
returns-clause-result g c =
    let R = g.F.Field.ring in
    let frame = c.args.frame.now in
    let s = frame.orders.e in
    let back = written_back c.handle_points.new.curves (drop (length c.handle_points.new.curves) c.in_ok-curves.curves.items) c.in_ok-curves.curves.len
    (omega (arith, c.handle_points.ensures.count, ap length c.deref_mut.ensures.value, c.in_ok-curves.curves.ok.0)) in
    result_of R frame.terms.w frame.terms.e frame.width s c.args.points.now (length c.args.points.now * term_count 1 s) c.taken.ensures.0 c.taken.result c.handle_points.new.curves
    c.handle_points.ensures.state c.handle_points.ensures.shape (sym (ap (λ t. slot t c.taken.ensures.0) back) ∙ c.taken.ensures.1)
