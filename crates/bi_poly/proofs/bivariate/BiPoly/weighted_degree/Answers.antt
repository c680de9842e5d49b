use Rattle.std.proofs.Common.{◌≡◌, ◌≢◌, inl, inr, ℕ, ◌≤◌, List, [], length, refl, sym, ap, subst, ◌∙◌, arith}
use Rattle.std.proofs.lemmas.Bool.{cases_lt}
use Rattle.std.proofs.lemmas.Bool.Decides.{nat_tests}
use Rattle.std.proofs.lemmas.List.{get_or_default}
use Rattle.algebra.specs.Lists.{coefficients}
use Rattle.algebra.specs.Bivariate.{greatest, weight_by}
use Rattle.bi_poly.proofs.Heights.{IsHeight, height_none, empty_height, greatest_is}
use Rattle.bi_poly.proofs.bivariate.BiPoly.weighted_degree.Goals as goal

pub heaviest-requires-clause-x : goal.heaviest-requires-clause-x
heaviest-requires-clause-x g c i l =
    let R = g.F.Field.ring in
    let rows = c.self.inside.rows.items in
    ap (λ (t : List g.row.F.Denot). coefficients R t i) (c.index.ensures ∙ get_or_default rows c.rows.j c.index.result.now [] (omega (arith, ap length c.deref.ensures.value, c.height-height.ensures.within)))
    ∙ c.self.invariant.x i c.rows.j l

pub heaviest-requires-clause-y : goal.heaviest-requires-clause-y
heaviest-requires-clause-y g c i l =
    let R = g.F.Field.ring in
    let rows = c.self.inside.rows.items in
    ap (λ (t : List g.row.F.Denot). coefficients R t i) (c.index.ensures ∙ get_or_default rows c.rows.j c.index.result.now [] (omega (arith, ap length c.deref.ensures.value, c.height-height.ensures.within)))
    ∙ c.self.invariant.y i c.rows.j l

pub returns-then-height-eq0-clause-none : goal.returns-then-height-eq0-clause-none
returns-then-height-eq0-clause-none g c =
    let R = g.F.Field.ring in
    let met = g.met.F.Field in
    let tall : IsHeight R c.self.inside.rows.items c.height-height.result =
    subst (λ (rows : List (List g.row.F.Denot)). IsHeight R rows c.height-height.result) c.deref.ensures.value (record { zeros = c.height-height.ensures.zeros; last = c.height-height.ensures.last }) in
    let zero : c.height-height.result ≡ 0 = grind (arith, nat_tests, c.if-height-eq0.true) in
    (λ _. sym c.self.view_is ∙ height_none R g.F.Field.number met.number_nil met.same c.self.inside.rows.items c.height-height.result tall zero, λ _. refl)

pub returns-else-height-eq0-clause-none : goal.returns-else-height-eq0-clause-none
returns-else-height-eq0-clause-none g c =
    let R = g.F.Field.ring in
    let met = g.met.F.Field in
    let tall : IsHeight R c.self.inside.rows.items c.height-height.result =
    subst (λ (rows : List (List g.row.F.Denot)). IsHeight R rows c.height-height.result) c.deref.ensures.value (record { zeros = c.height-height.ensures.zeros; last = c.height-height.ensures.last }) in
    let some : c.height-height.result ≢ 0 = grind (arith, nat_tests, c.if-height-eq0.false) in
    (λ e. absurd (cc), λ z. absurd (some (empty_height R g.F.Field.number met.number_nil met.same c.self.inside.rows.items c.height-height.result tall (c.self.view_is ∙ z))))

pub returns-else-height-eq0-clause-some : goal.returns-else-height-eq0-clause-some
returns-else-height-eq0-clause-some g c =
    let R = g.F.Field.ring in
    let met = g.met.F.Field in
    let rows = c.self.inside.rows.items in
    let n : ℕ = c.height-height.result in
    let tall : IsHeight R rows n =
    subst (λ (rows : List (List g.row.F.Denot)). IsHeight R rows n) c.deref.ensures.value (record { zeros = c.height-height.ensures.zeros; last = c.height-height.ensures.last }) in
    let end : n ≤ c.rows.j = omega arith in
    greatest_is R g.F.Field.number met.number_nil met.same (weight_by c.args.w) rows c.rows.greatest
    (λ i j o. elim (cases_lt j c.rows.j) [ inl l ↦ c.rows.invariant.most i j l o | inr l ↦ absurd (o (tall.zeros i j (omega arith))) ])
    c.rows.invariant.reached
    ∙ ap (greatest (weight_by c.args.w)) c.self.view_is
