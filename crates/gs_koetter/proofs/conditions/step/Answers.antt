use Rattle.std.proofs.Common.{◌≡◌, ◌+◌, ◌<◌, ◌≤◌, suc, None, length, set, subst, arith}
use Rattle.std.proofs.lemmas.List.{length-set}
use Rattle.std.specs.Option.{IfSome}
use Rattle.koetter_terms.specs.Curves.{AreQuotients}
use Rattle.koetter_terms.specs.State.{Handled}
use Rattle.koetter_terms.proofs.Orders.{handled_here, handled_lower, handled_next}
use Rattle.term_lists.specs.Places.{AreTermsBelow, exponents_at, place}
use Rattle.gs_koetter.specs.declared.curve.Curve.{Curve}
use Rattle.gs_koetter.specs.Shapes.{HasShape, IsProduct, slot}
use Rattle.gs_koetter.proofs.Pivots.{one_some}
use Rattle.gs_koetter.proofs.States.{shape_step, state_step}
use Rattle.gs_koetter.proofs.Stepping.{counted, ended, here, others, room, stands_is}
use Rattle.gs_koetter.proofs.conditions.step.Goals as goal

pub cancel_all-requires-clause-room : goal.cancel_all-requires-clause-room
cancel_all-requires-clause-room g c =
    let frame = c.args.frame.now in
    let stands = stands_is c.args.curves.now c.args.p c.requires.pivot.pivot c.unwrap-pivot.result c.index-curves-p.result c.take.result c.requires.pivot.stands c.take.ensures.value c.unwrap-pivot.ensures in
    room g.F.Field.ring frame.terms.w frame.terms.e frame.orders.e c.args.p c.args.curves.now c.args.curves.now c.unwrap-pivot.result stands c.requires.shape c.take.new.self None c.take.ensures.after

pub cancel_all-requires-clause-ended : goal.cancel_all-requires-clause-ended
cancel_all-requires-clause-ended g c =
    let frame = c.args.frame.now in
    let stands = stands_is c.args.curves.now c.args.p c.requires.pivot.pivot c.unwrap-pivot.result c.index-curves-p.result c.take.result c.requires.pivot.stands c.take.ensures.value c.unwrap-pivot.ensures in
    ended g.F.Field.ring frame.terms.w frame.terms.e frame.orders.e c.args.p c.args.curves.now c.args.curves.now c.unwrap-pivot.result stands c.requires.shape frame.terms.some_weight

pub multiplied-requires-clause-shape : goal.multiplied-requires-clause-shape
multiplied-requires-clause-shape g c =
    c.requires.shape c.args.p c.unwrap-pivot.result
    (stands_is c.args.curves.now c.args.p c.requires.pivot.pivot c.unwrap-pivot.result c.index-curves-p.result c.take.result c.requires.pivot.stands c.take.ensures.value c.unwrap-pivot.ensures)

pub returns-clause-shape : goal.returns-clause-shape
returns-clause-shape g c =
    let R = g.F.Field.ring in
    let frame = c.args.frame.now in
    let w = frame.terms.w in
    let e = frame.terms.e in
    let s = frame.orders.e in
    let pivot = c.unwrap-pivot.result in
    let stands = stands_is c.args.curves.now c.args.p c.requires.pivot.pivot pivot c.index-curves-p.result c.take.result c.requires.pivot.stands c.take.ensures.value c.unwrap-pivot.ensures in
    let same : c.requires.pivot.pivot ≡ pivot = one_some c.requires.pivot.pivot pivot (slot c.args.curves.now c.args.p) c.requires.pivot.stands stands in
    let shifted : AreQuotients 1 s frame.orders.quotients.items = subst (λ n. AreQuotients n s frame.orders.quotients.items) frame.orders_by_one frame.orders.quotients_are in
    shape_step R g.met.F.Field.field.decided w e (length c.args.curves.now) s frame.terms.some_weight frame.terms.quotients.items frame.orders.quotients.items frame.terms.quotients_are shifted
    c.args.a c.inverse_at-inverse.result c.args.place c.args.p pivot c.multiplied.result c.args.curves.now (set c.cancel_all.new.curves c.args.p c.multiplied.result) c.requires.shape stands
    c.inverse_at-inverse.ensures.inverse
    (λ j d is some. subst (λ (x : Curve g.row.F.Denot). x.len ≤ d.len) same (c.requires.pivot.least j d is some))
    (others R w e s c.args.p c.args.curves.now c.cancel_all.new.curves pivot stands c.requires.shape c.take.new.self c.multiplied.result c.args.place c.inverse_at-inverse.result c.cancel_all.ensures.value)
    (here R w e s c.args.p c.args.curves.now c.cancel_all.new.curves pivot stands c.requires.shape c.take.new.self c.multiplied.result c.cancel_all.ensures.count)
    (λ d is. subst (λ o. IfSome o (λ new. IsProduct R frame.terms.quotients.items frame.orders.quotients.items c.args.a pivot new)) is c.multiplied.ensures.product)
    (λ d is. subst (λ o. IfSome o (λ new. HasShape R w e s c.args.p new)) is c.multiplied.ensures.shape)
    c.multiplied.ensures.dropped

pub returns-clause-state : goal.returns-clause-state
returns-clause-state g c i handled points b at state =
    let R = g.F.Field.ring in
    let frame = c.args.frame.now in
    let w = frame.terms.w in
    let e = frame.terms.e in
    let s = frame.orders.e in
    let pivot = c.unwrap-pivot.result in
    let stands = stands_is c.args.curves.now c.args.p c.requires.pivot.pivot pivot c.index-curves-p.result c.take.result c.requires.pivot.stands c.take.ensures.value c.unwrap-pivot.ensures in
    let same : c.requires.pivot.pivot ≡ pivot = one_some c.requires.pivot.pivot pivot (slot c.args.curves.now c.args.p) c.requires.pivot.stands stands in
    let shifted : AreQuotients 1 s frame.orders.quotients.items = subst (λ n. AreQuotients n s frame.orders.quotients.items) frame.orders_by_one frame.orders.quotients_are in
    let orders : AreTermsBelow 1 s frame.orders.terms.items = subst (λ n. AreTermsBelow n s frame.orders.terms.items) frame.orders_by_one frame.orders.terms_are in
    let order = exponents_at frame.orders.terms.items c.args.place in
    let placed : place 1 order.x order.y ≡ c.args.place = orders.placed c.args.place c.requires.place in
    let few : order.x + order.y < s = omega (arith, orders.light c.args.place c.requires.place) in
    state_step R g.met.F.Field.field.decided w e (length c.args.curves.now) s frame.terms.some_weight frame.terms.quotients.items frame.orders.quotients.items frame.terms.quotients_are shifted
    c.args.a c.inverse_at-inverse.result c.args.place c.args.p pivot c.multiplied.result c.args.curves.now (set c.cancel_all.new.curves c.args.p c.multiplied.result) c.requires.shape stands
    c.inverse_at-inverse.ensures.inverse
    (λ j d is some. subst (λ (x : Curve g.row.F.Denot). x.len ≤ d.len) same (c.requires.pivot.least j d is some))
    (others R w e s c.args.p c.args.curves.now c.cancel_all.new.curves pivot stands c.requires.shape c.take.new.self c.multiplied.result c.args.place c.inverse_at-inverse.result c.cancel_all.ensures.value)
    (here R w e s c.args.p c.args.curves.now c.cancel_all.new.curves pivot stands c.requires.shape c.take.new.self c.multiplied.result c.cancel_all.ensures.count)
    (λ d is. subst (λ o. IfSome o (λ new. IsProduct R frame.terms.quotients.items frame.orders.quotients.items c.args.a pivot new)) is c.multiplied.ensures.product)
    (λ d is. subst (λ o. IfSome o (λ new. HasShape R w e s c.args.p new)) is c.multiplied.ensures.shape)
    c.multiplied.ensures.dropped
    (Handled points s i c.args.place) (Handled points s i (suc c.args.place)) b order.x order.y handled placed few state
    (handled_lower points s i c.args.place)
    (handled_here points s i order.x order.y c.args.place c.args.a b at placed few)
    (handled_next points s i order.x order.y c.args.place c.args.a b at placed)

pub returns-clause-products : goal.returns-clause-products
returns-clause-products g c =
    let frame = c.args.frame.now in
    let stands = stands_is c.args.curves.now c.args.p c.requires.pivot.pivot c.unwrap-pivot.result c.index-curves-p.result c.take.result c.requires.pivot.stands c.take.ensures.value c.unwrap-pivot.ensures in
    counted g.F.Field.ring frame.terms.w frame.terms.e frame.orders.e c.args.p c.args.curves.now c.args.curves.now c.unwrap-pivot.result stands c.requires.shape frame.terms.some_weight
    (length c.args.curves.now) (length (set c.args.curves.now c.args.p c.take.new.self)) c.args.prods.now c.inverse_at-inverse.new.prods c.cancel_all.new.prods c.multiplied.new.prods
    (length-set c.args.curves.now c.args.p c.take.new.self) c.inverse_at-inverse.ensures.products c.cancel_all.ensures.products c.multiplied.ensures.products
