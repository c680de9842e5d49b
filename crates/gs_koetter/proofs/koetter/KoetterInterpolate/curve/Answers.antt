use Rattle.std.proofs.Common.{◌≡◌, ◌≢◌, ◌+◌, ◌*◌, ◌<◌, ◌≤◌, length, drop, ◌∙◌, sym, ap, ap₂, subst, arith}
use Rattle.std.proofs.lemmas.List.{take_rest}
use Rattle.std.specs.FinMap.{empty}
use Rattle.std.specs.List.{All}
use Rattle.algebra.specs.Bivariate.{HasMultiplicity, greatest, weight_by}
use Rattle.decoding_terms.proofs.Sizes.{some_weight}
use Rattle.decoding_terms.specs.Parameters.{term_count}
use Rattle.term_lists.specs.Places.{AreTermsBelow}
use Rattle.term_lists.proofs.Ordered.{all_different}
use Rattle.term_lists.proofs.Orders.{orders_count}
use Rattle.gs_koetter.proofs.Found.{IsFound, all_found, all_products, low_terms, ok_then, same_products}
use Rattle.gs_koetter.proofs.koetter.KoetterInterpolate.curve.Goals as goal

pub kept_curve-requires : goal.kept_curve-requires
kept_curve-requires g c =
    let p = c.args.params.now in
    let frame = c.in_ok-frame.frame in
    let s : frame.orders.e ≡ p.s = c.in_ok-frame.ensures.s in
    let terms : term_count frame.terms.w frame.terms.e ≡ term_count p.w p.e = ap₂ term_count c.in_ok-frame.ensures.w c.in_ok-frame.ensures.e in
    let conditions : length c.args.points.now * term_count 1 frame.orders.e ≡ p.r * term_count 1 p.s = ap₂ (λ n t. n * term_count 1 t) c.requires s in
    omega (arith, terms, conditions, orders_count p.r p.s, p.equations, p.weight.holds)

pub returns-in_err-kept-clause-products : goal.returns-in_err-kept-clause-products
returns-in_err-kept-clause-products g c =
    let p = c.args.params.now in
    let frame = c.in_ok-frame.frame in
    let same = same_products p.r p.w p.e p.s frame.width (length c.args.points.now) frame.terms.w frame.terms.e frame.orders.e c.requires c.in_ok-frame.ensures.w c.in_ok-frame.ensures.e c.in_ok-frame.ensures.s in
    all_products p.r p.s p.w p.e frame.width p.rows p.cols c.args.prods.now c.kept_curve.new.prods p.some_weight p.some_points p.some_times (some_weight p.w p.rows p.e p.some_weight p.weight) c.in_ok-frame.ensures.width
    p.equations p.terms p.weight.holds (subst (λ k. c.kept_curve.new.prods ≤ c.args.prods.now + k) same c.kept_curve.ensures.products)

pub returns-clause-products : goal.returns-clause-products
returns-clause-products g c =
    let p = c.args.params.now in
    let frame = c.in_ok-frame.frame in
    let same = same_products p.r p.w p.e p.s frame.width (length c.args.points.now) frame.terms.w frame.terms.e frame.orders.e c.requires c.in_ok-frame.ensures.w c.in_ok-frame.ensures.e c.in_ok-frame.ensures.s in
    all_products p.r p.s p.w p.e frame.width p.rows p.cols c.args.prods.now c.kept_curve.new.prods p.some_weight p.some_points p.some_times (some_weight p.w p.rows p.e p.some_weight p.weight) c.in_ok-frame.ensures.width
    p.equations p.terms p.weight.holds (subst (λ k. c.kept_curve.new.prods ≤ c.args.prods.now + k) same c.kept_curve.ensures.products)

pub polynomial_of-requires-clause-x : goal.polynomial_of-requires-clause-x
polynomial_of-requires-clause-x g c k l =
    let terms = c.in_ok-frame.frame.terms in
    (low_terms terms.w terms.e terms.terms.items c.deref.result.now terms.some_weight terms.low terms.terms_are c.deref.ensures.value k l).0

pub polynomial_of-requires-clause-y : goal.polynomial_of-requires-clause-y
polynomial_of-requires-clause-y g c k l =
    let terms = c.in_ok-frame.frame.terms in
    (low_terms terms.w terms.e terms.terms.items c.deref.result.now terms.some_weight terms.low terms.terms_are c.deref.ensures.value k l).1

pub polynomial_of-requires-clause-different : goal.polynomial_of-requires-clause-different
polynomial_of-requires-clause-different g c =
    let terms = c.in_ok-frame.frame.terms in
    all_different terms.w terms.e c.deref.result.now (subst (AreTermsBelow terms.w terms.e) (sym c.deref.ensures.value) terms.terms_are)

pub returns-clause-nonzero : goal.returns-clause-nonzero
returns-clause-nonzero g c =
    let R = g.F.Field.ring in
    let p = c.args.params.now in
    let frame = c.in_ok-frame.frame in
    ok_then (IsFound R c.args.points.now p.w p.e p.s) (λ q. q ≢ empty) c.polynomial_of.result (λ q is. is.nonzero)
    (all_found R frame.terms.w frame.terms.e frame.width frame.orders.e p.w p.e p.s frame.terms.terms.items c.deref.result.now c.args.points.now c.in_ok-kept.kept _ c.polynomial_of.result frame.terms.some_weight
    (some_weight p.w p.rows p.e p.some_weight p.weight) frame.all_powers frame.terms.terms_are c.in_ok-kept.ensures.result c.deref.ensures.value
    (take_rest c.deref-2.result.now c.in_ok-kept.kept.orders ∙ ap (drop c.in_ok-kept.kept.orders) c.deref-2.ensures.value) c.in_ok-frame.ensures.w c.in_ok-frame.ensures.e c.in_ok-frame.ensures.s c.polynomial_of.ensures)

pub returns-clause-light : goal.returns-clause-light
returns-clause-light g c =
    let R = g.F.Field.ring in
    let p = c.args.params.now in
    let frame = c.in_ok-frame.frame in
    ok_then (IsFound R c.args.points.now p.w p.e p.s) (λ q. greatest (weight_by p.w) q < p.e) c.polynomial_of.result (λ q is. is.light)
    (all_found R frame.terms.w frame.terms.e frame.width frame.orders.e p.w p.e p.s frame.terms.terms.items c.deref.result.now c.args.points.now c.in_ok-kept.kept _ c.polynomial_of.result frame.terms.some_weight
    (some_weight p.w p.rows p.e p.some_weight p.weight) frame.all_powers frame.terms.terms_are c.in_ok-kept.ensures.result c.deref.ensures.value
    (take_rest c.deref-2.result.now c.in_ok-kept.kept.orders ∙ ap (drop c.in_ok-kept.kept.orders) c.deref-2.ensures.value) c.in_ok-frame.ensures.w c.in_ok-frame.ensures.e c.in_ok-frame.ensures.s c.polynomial_of.ensures)

pub returns-clause-multiplicity : goal.returns-clause-multiplicity
returns-clause-multiplicity g c =
    let R = g.F.Field.ring in
    let p = c.args.params.now in
    let frame = c.in_ok-frame.frame in
    ok_then (IsFound R c.args.points.now p.w p.e p.s) (λ q. All (λ t. HasMultiplicity R p.s q t.0 t.1) c.args.points.now) c.polynomial_of.result (λ q is. is.multiplicity)
    (all_found R frame.terms.w frame.terms.e frame.width frame.orders.e p.w p.e p.s frame.terms.terms.items c.deref.result.now c.args.points.now c.in_ok-kept.kept _ c.polynomial_of.result frame.terms.some_weight
    (some_weight p.w p.rows p.e p.some_weight p.weight) frame.all_powers frame.terms.terms_are c.in_ok-kept.ensures.result c.deref.ensures.value
    (take_rest c.deref-2.result.now c.in_ok-kept.kept.orders ∙ ap (drop c.in_ok-kept.kept.orders) c.deref-2.ensures.value) c.in_ok-frame.ensures.w c.in_ok-frame.ensures.e c.in_ok-frame.ensures.s c.polynomial_of.ensures)
