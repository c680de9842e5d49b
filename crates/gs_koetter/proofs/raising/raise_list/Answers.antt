use Rattle.std.proofs.Common.{◌≡◌, ℕ, take, drop, sym, ◌∙◌, ap, subst, arith}
use Rattle.std.proofs.lemmas.List.{drop_at, take_at, take_rest}
use Rattle.decoding_terms.specs.Parameters.{term_count}
use Rattle.koetter_terms.specs.Curves.{IsRaised}
use Rattle.gs_koetter.proofs.Raised.{shifted_lists}
use Rattle.gs_koetter.proofs.raising.raise_list.Goals as goal

pub returns-clause-tile : goal.returns-clause-tile
returns-clause-tile g c =
    let R = g.F.Field.ring in
    let frame = c.args.frame.now in
    let source = c.args.source.now in
    let t : ℕ = term_count 1 frame.orders.e in
    let n_is : c.len-orders.result ≡ t = omega (arith, c.len-orders.ensures, frame.orders.terms_are.count, ap (λ v. term_count v frame.orders.e) frame.orders_by_one) in
    subst (IsRaised R frame.orders.quotients.items R.nil (take t source))
    (sym (take_at c.shift.new.target c.multiply.new.target t (c.shift.ensures.length ∙ c.split_at_mut-tile.ensures.front_len ∙ n_is)))
    (shifted_lists R c.deref.result.now frame.orders.quotients.items (take c.len-orders.result source) (take t source) c.shift.new.target c.deref.ensures.value (ap (λ m. take m source) n_is) c.shift.ensures.each)

pub returns-clause-coefs : goal.returns-clause-coefs
returns-clause-coefs g c =
    let R = g.F.Field.ring in
    let frame = c.args.frame.now in
    let source = c.args.source.now in
    let t : ℕ = term_count 1 frame.orders.e in
    let n_is : c.len-orders.result ≡ t = omega (arith, c.len-orders.ensures, frame.orders.terms_are.count, ap (λ v. term_count v frame.orders.e) frame.orders_by_one) in
    subst (IsRaised R frame.terms.quotients.items c.args.a (drop t source))
    (sym (drop_at c.shift.new.target c.multiply.new.target t (c.shift.ensures.length ∙ c.split_at_mut-tile.ensures.front_len ∙ n_is)))
    (subst (λ m. IsRaised R frame.terms.quotients.items c.args.a (drop m source) c.multiply.new.target) n_is
    (subst (λ x. IsRaised R frame.terms.quotients.items c.args.a x c.multiply.new.target) (take_rest source c.len-orders.result) c.multiply.ensures.product))
