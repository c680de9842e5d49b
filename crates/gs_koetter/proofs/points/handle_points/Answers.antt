use Rattle.std.proofs.Common.{◌≡◌, ◌+◌, ◌*◌, length, ◌∙◌, sym, subst, arith}
use Rattle.std.proofs.lemmas.List.{get_or_default}
use Rattle.decoding_terms.specs.Parameters.{term_count}
use Rattle.koetter_terms.specs.State.{Handled}
use Rattle.gs_koetter.specs.States.{IsBare, point_at}
use Rattle.gs_koetter.proofs.points.handle_points.Goals as goal

pub points-preserved : goal.points-preserved
points-preserved g c =
    let R = g.F.Field.ring in
    let frame = c.args.frame.now in
    let s = frame.orders.e in
    let here : point_at R c.args.points.now c.points.i ≡ c.index-points-i.result = get_or_default c.args.points.now c.points.i (R.nil, R.nil) c.index-points-i.result c.points-test.true ∙ sym c.index-points-i.is in
    let more : c.points.i * term_count 1 s + term_count 1 s ≡ (c.points.i + 1) * term_count 1 s = omega arith in
    record {
      shape = c.handle_point.ensures.shape;
      count = c.handle_point.ensures.count ∙ c.points.invariant.count;
      spare = c.handle_point.ensures.spare;
      scratch = c.handle_point.ensures.scratch;
      state = subst (λ k. IsBare R frame.terms.w frame.terms.e frame.width (Handled (point_at R c.args.points.now) s (c.points.i + 1) 0) k c.handle_point.new.curves) more
          (c.handle_point.ensures.state c.points.i (c.points.i * term_count 1 s) (point_at R c.args.points.now) here c.points.invariant.state);
      products = omega (arith, c.handle_point.ensures.products, c.points.invariant.products);
    }

pub returns-clause-state : goal.returns-clause-state
returns-clause-state g c =
    let R = g.F.Field.ring in
    let frame = c.args.frame.now in
    let s = frame.orders.e in
    let all : c.points.i ≡ length c.args.points.now = omega (arith, c.points-test.false, c.points.auto.i-end) in
    subst (λ k. IsBare R frame.terms.w frame.terms.e frame.width (Handled (point_at R c.args.points.now) s k 0) (k * term_count 1 s) c.points.curves) all c.points.invariant.state
