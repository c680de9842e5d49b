use Rattle.std.proofs.Common.{◌≡◌, ◌+◌, ◌<◌, suc, length, subst, arith}
use Rattle.koetter_terms.specs.State.{Handled}
use Rattle.koetter_terms.proofs.Orders.{handled_next}
use Rattle.term_lists.specs.Places.{AreTermsBelow, exponents_at, place}
use Rattle.gs_koetter.proofs.States.{state_zero}
use Rattle.gs_koetter.proofs.conditions.handle.Goals as goal

pub shortest-requires : goal.shortest-requires
shortest-requires g c j d is =
    let frame = c.args.frame.now in
    let orders : AreTermsBelow 1 frame.orders.e frame.orders.terms.items = subst (λ n. AreTermsBelow n frame.orders.e frame.orders.terms.items) frame.orders_by_one frame.orders.terms_are in
    omega (arith, (c.requires.shape j d is).list, orders.count, c.requires.place)

pub returns-in_default-clause-state : goal.returns-in_default-clause-state
returns-in_default-clause-state g c i handled points b at state =
    let frame = c.args.frame.now in
    let s = frame.orders.e in
    let orders : AreTermsBelow 1 s frame.orders.terms.items = subst (λ n. AreTermsBelow n s frame.orders.terms.items) frame.orders_by_one frame.orders.terms_are in
    let order = exponents_at frame.orders.terms.items c.args.place in
    let placed : place 1 order.x order.y ≡ c.args.place = orders.placed c.args.place c.requires.place in
    let few : order.x + order.y < s = omega (arith, orders.light c.args.place c.requires.place) in
    state_zero g.F.Field.ring frame.terms.w frame.terms.e (length c.args.curves.now) s frame.terms.some_weight (Handled points s i c.args.place) (Handled points s i (suc c.args.place)) c.args.a b order.x order.y c.args.place handled c.args.curves.now
    placed few state (c.shortest.ensures.none c.in_default.is)
    (handled_next points s i order.x order.y c.args.place c.args.a b at placed)

pub step-requires-clause-pivot : goal.step-requires-clause-pivot
step-requires-clause-pivot g c = c.shortest.ensures.some c.in-Some.p c.in-Some.is
