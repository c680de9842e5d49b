use Rattle.std.proofs.Common.{◌≡◌, ◌+◌, length, set, refl, ap, arith}
use Rattle.std.specs.Vec.{vec_len}
use Rattle.term_lists.proofs.Ordered.{place_below}
use Rattle.gs_koetter.proofs.Beginning.{begun_curve}
use Rattle.gs_koetter.proofs.koetter.first_curve.Goals as goal

pub index_mut-requires : goal.index_mut-requires
index_mut-requires g c =
    let frame = c.args.frame.now in
    let below = place_below frame.terms.w frame.terms.e 0 c.args.j frame.terms.some_weight (omega (arith, c.requires.light)) in
    let long : vec_len c.in_ok-curve.curve.list ≡ length c.in_ok-curve.curve.list.items = c.in_ok-curve.curve.list.ok.0 in
    omega (arith, below, long, c.in_ok-curve.ensures.lists.list, c.in_ok-curve.ensures.lists.orders, c.requires.first)

pub returns : goal.returns
returns g c =
    let frame = c.args.frame.now in
    begun_curve g.F.Field.ring frame.terms.w frame.terms.e frame.orders.e c.args.j c.args.first c.in_ok-curve.curve _ frame.terms.some_weight c.requires.light c.requires.first c.in_ok-curve.ensures.lists c.in_ok-curve.ensures.zeros
    (ap (set c.in_ok-curve.curve.list.items (c.in_ok-curve.curve.orders + c.args.first)) c.one.ensures) refl refl c.in_ok-curve.ensures.exponent
