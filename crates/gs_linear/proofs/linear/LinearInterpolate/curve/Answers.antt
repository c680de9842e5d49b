use Rattle.std.proofs.Common.{◌≢◌, ◌<◌, length, sym, subst, arith}
use Rattle.std.specs.FinMap.{empty}
use Rattle.std.specs.List.{All}
use Rattle.std.specs.Result.{IfOk}
use Rattle.algebra.specs.Bivariate.{HasMultiplicity, greatest, weight_by}
use Rattle.decoding_terms.proofs.Sizes.{some_weight}
use Rattle.term_lists.specs.Places.{AreTermsBelow}
use Rattle.term_lists.specs.Polynomials.{HasTerms}
use Rattle.term_lists.proofs.Ordered.{all_different}
use Rattle.gs_linear.specs.Equations.{IsSolution}
use Rattle.gs_linear.proofs.Solutions.{found, low_y, ok_then}
use Rattle.gs_linear.proofs.linear.LinearInterpolate.curve.Goals as goal

pub polynomial_of-requires-clause-y : goal.polynomial_of-requires-clause-y
polynomial_of-requires-clause-y g c =
    let p = c.args.params.now in
    let terms = subst (AreTermsBelow p.w p.e) (sym c.deref-3.ensures.value) c.in_ok-terms.ensures in
    λ k l. omega (arith, low_y p.w p.e c.deref-3.result.now p.some_weight terms k l, p.low_weight)

pub polynomial_of-requires-clause-different : goal.polynomial_of-requires-clause-different
polynomial_of-requires-clause-different g c =
    let p = c.args.params.now in
    all_different p.w p.e c.deref-3.result.now (subst (AreTermsBelow p.w p.e) (sym c.deref-3.ensures.value) c.in_ok-terms.ensures)

pub returns-clause-nonzero : goal.returns-clause-nonzero
returns-clause-nonzero g c =
    let R = g.F.Field.ring in
    let p = c.args.params.now in
    let solution = subst (λ t. IsSolution R t c.in_ok-orders.orders.items c.args.points.now c.in_ok-vector.vector) c.deref.ensures.value
    (subst (λ t. IsSolution R c.deref.result.now t c.args.points.now c.in_ok-vector.vector) c.deref-2.ensures.value c.in_ok-vector.ensures.solution) in
    let terms = subst (λ t. IfOk c.polynomial_of.result (HasTerms R t c.as_slice.result.now (length c.as_slice.result.now))) c.deref-3.ensures.value c.polynomial_of.ensures in
    ok_then (HasTerms R c.in_ok-terms.terms.items c.as_slice.result.now (length c.as_slice.result.now)) (λ q. q ≢ empty) c.polynomial_of.result
    (λ q has. (found R c.in_ok-terms.terms.items c.in_ok-orders.orders.items c.args.points.now p.w p.e p.s c.in_ok-vector.vector c.as_slice.result.now q c.in_ok-terms.ensures c.in_ok-orders.ensures (some_weight p.w p.rows p.e p.some_weight p.weight) solution c.as_slice.ensures has).nonzero)
    terms

pub returns-clause-light : goal.returns-clause-light
returns-clause-light g c =
    let R = g.F.Field.ring in
    let p = c.args.params.now in
    let solution = subst (λ t. IsSolution R t c.in_ok-orders.orders.items c.args.points.now c.in_ok-vector.vector) c.deref.ensures.value
    (subst (λ t. IsSolution R c.deref.result.now t c.args.points.now c.in_ok-vector.vector) c.deref-2.ensures.value c.in_ok-vector.ensures.solution) in
    let terms = subst (λ t. IfOk c.polynomial_of.result (HasTerms R t c.as_slice.result.now (length c.as_slice.result.now))) c.deref-3.ensures.value c.polynomial_of.ensures in
    ok_then (HasTerms R c.in_ok-terms.terms.items c.as_slice.result.now (length c.as_slice.result.now)) (λ q. greatest (weight_by p.w) q < p.e) c.polynomial_of.result
    (λ q has. (found R c.in_ok-terms.terms.items c.in_ok-orders.orders.items c.args.points.now p.w p.e p.s c.in_ok-vector.vector c.as_slice.result.now q c.in_ok-terms.ensures c.in_ok-orders.ensures (some_weight p.w p.rows p.e p.some_weight p.weight) solution c.as_slice.ensures has).light)
    terms

pub returns-clause-multiplicity : goal.returns-clause-multiplicity
returns-clause-multiplicity g c =
    let R = g.F.Field.ring in
    let p = c.args.params.now in
    let solution = subst (λ t. IsSolution R t c.in_ok-orders.orders.items c.args.points.now c.in_ok-vector.vector) c.deref.ensures.value
    (subst (λ t. IsSolution R c.deref.result.now t c.args.points.now c.in_ok-vector.vector) c.deref-2.ensures.value c.in_ok-vector.ensures.solution) in
    let terms = subst (λ t. IfOk c.polynomial_of.result (HasTerms R t c.as_slice.result.now (length c.as_slice.result.now))) c.deref-3.ensures.value c.polynomial_of.ensures in
    ok_then (HasTerms R c.in_ok-terms.terms.items c.as_slice.result.now (length c.as_slice.result.now)) (λ q. All (λ t. HasMultiplicity R p.s q t.0 t.1) c.args.points.now) c.polynomial_of.result
    (λ q has. (found R c.in_ok-terms.terms.items c.in_ok-orders.orders.items c.args.points.now p.w p.e p.s c.in_ok-vector.vector c.as_slice.result.now q c.in_ok-terms.ensures c.in_ok-orders.ensures (some_weight p.w p.rows p.e p.some_weight p.weight) solution c.as_slice.ensures has).multiplicity)
    terms
