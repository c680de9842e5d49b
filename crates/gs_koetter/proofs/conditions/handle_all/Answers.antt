use Rattle.std.proofs.Common.{◌≡◌, ◌+◌, ◌*◌, ◌≤◌, suc, length, sym, ◌∙◌, subst, arith}
use Rattle.decoding_terms.specs.Parameters.{term_count}
use Rattle.koetter_terms.specs.State.{Handled}
use Rattle.term_lists.specs.Places.{AreTermsBelow}
use Rattle.gs_koetter.specs.States.{IsState, step_products}
use Rattle.gs_koetter.proofs.conditions.handle_all.Goals as goal

pub orders-preserved : goal.orders-preserved
orders-preserved g c =
    let R = g.F.Field.ring in
    let frame = c.args.frame.now in
    let w = frame.terms.w in
    let e = frame.terms.e in
    let s = frame.orders.e in
    let n = length c.args.curves.now in
    let same : length c.orders.curves ≡ n = c.orders.invariant.count in
    record {
      count = c.handle.ensures.count ∙ same;
      shape = c.handle.ensures.shape;
      spare = c.handle.ensures.spare;
      state = λ i handled points b at first.
          let one : suc (handled + c.orders.place) ≡ handled + (c.orders.place + 1) = omega arith in
          let next : suc c.orders.place ≡ c.orders.place + 1 = omega arith in
          subst (λ k. IsState R w e n s (Handled points s i k) c.args.a b (handled + (c.orders.place + 1)) c.handle.new.curves) next
          (subst (λ k. IsState R w e n s (Handled points s i (suc c.orders.place)) c.args.a b k c.handle.new.curves) one
          (subst (λ k. IsState R w e k s (Handled points s i (suc c.orders.place)) c.args.a b (suc (handled + c.orders.place)) c.handle.new.curves) same
          (c.handle.ensures.state i (handled + c.orders.place) points b at
          (subst (λ k. IsState R w e k s (Handled points s i c.orders.place) c.args.a b (handled + c.orders.place) c.orders.curves) (sym same) (c.orders.invariant.state i handled points b at first)))));
      products =
          let more : c.handle.new.prods ≤ c.orders.prods + step_products w e s n = subst (λ k. c.handle.new.prods ≤ c.orders.prods + step_products w e s k) same c.handle.ensures.products in
          omega (arith, more, c.orders.invariant.products);
    }

pub returns-clause-state : goal.returns-clause-state
returns-clause-state g c i handled points b at first =
    let frame = c.args.frame.now in
    let s = frame.orders.e in
    let orders : AreTermsBelow 1 s frame.orders.terms.items = subst (λ n. AreTermsBelow n s frame.orders.terms.items) frame.orders_by_one frame.orders.terms_are in
    let ends : c.len-place-end.result ≡ length frame.orders.terms.items = c.len-place-end.ensures ∙ frame.orders.terms.ok.0 in
    let all : c.orders.place ≡ term_count 1 s = omega (arith, ends, orders.count, c.orders-test.false, c.orders.auto.place-end) in
    subst (λ k. IsState g.F.Field.ring frame.terms.w frame.terms.e (length c.args.curves.now) s (Handled points s i k) c.args.a b (handled + k) c.orders.curves) all (c.orders.invariant.state i handled points b at first)

pub returns-clause-products : goal.returns-clause-products
returns-clause-products g c =
    let frame = c.args.frame.now in
    let s = frame.orders.e in
    let orders : AreTermsBelow 1 s frame.orders.terms.items = subst (λ n. AreTermsBelow n s frame.orders.terms.items) frame.orders_by_one frame.orders.terms_are in
    let ends : c.len-place-end.result ≡ length frame.orders.terms.items = c.len-place-end.ensures ∙ frame.orders.terms.ok.0 in
    let all : c.orders.place ≡ term_count 1 s = omega (arith, ends, orders.count, c.orders-test.false, c.orders.auto.place-end) in
    subst (λ k. c.orders.prods ≤ c.args.prods.now + k * step_products frame.terms.w frame.terms.e s (length c.args.curves.now)) all c.orders.invariant.products
