use Rattle.std.proofs.Common.{◌≡◌, ℕ, ◌+◌, ◌-◌, ◌*◌, ◌<◌, ◌≤◌, List, None, Ok, All, filter, map, length, refl, sym, ◌∙◌, ap, ap₂, subst, arith}
use Rattle.std.proofs.lemmas.List.Sums.{length-filter, count_by-le-length}
use Rattle.std.proofs.lemmas.List.{length-map}
use Rattle.algebra.specs.Bivariate.{Bivariate, HasMultiplicity, greatest, weight_by, y_power}
use Rattle.code_terms.specs.Symbols.{packed}
use Rattle.decoding_terms.specs.Parameters.{AreParameters, IsAgreement}
use Rattle.decoder_terms.specs.Bounds.{root_bound}
use Rattle.pair_terms.specs.Pairs.{Pair}
use Rattle.pair_terms.specs.Recovery.{fits_enough, recovered}
use Rattle.gs_params.specs.declared.parameters.Params.{Params}
use Rattle.gs_params.specs.Refusals.{refusal_of}
use Rattle.root_terms.specs.YRoots.{AreYRoots}
use Rattle.list_decode.proofs.Bounds.{x_weighs, weight_low, powers_few, search_within, comparing_within}
use Rattle.list_decode.proofs.Completeness.{kept_are_recovered}
use Rattle.list_decode.proofs.Refusals.{allowed_bound, are_enough, granted, answered, some_readable}
use Rattle.list_decode.proofs.decoder.recover.Goals as goal

pub points-requires-clause-within : goal.points-requires-clause-within
points-requires-clause-within g c = subst (λ n. All (λ (p : Pair). p.0 < n) c.args.pairs.now) (sym c.n-places.ensures.value) c.requires.pairs.places

pub poly_roots-requires-clause-x : goal.poly_roots-requires-clause-x
poly_roots-requires-clause-x g c =
    omega (arith, x_weighs c.in_ok-curve.curve c.in_ok-chosen.chosen.w, c.in_ok-curve.ensures.light, c.in_ok-chosen.chosen.low_weight)

pub returns-in_err-roots-clause-products : goal.returns-in_err-roots-clause-products
returns-in_err-roots-clause-products g c curve most =
    let R = g.F.Field.ring in
    let met = g.met.F.Field in
    let number : g.row.F.Denot → ℕ = g.F.Field.number in
    let k : ℕ = c.args.code.now.dimension in
    let n : ℕ = c.args.code.now.places in
    let bound : ℕ = c.args.c in
    let pairs : List Pair = c.args.pairs.now in
    let r : ℕ = length pairs in
    let q : Bivariate g.row.F.Denot = c.in_ok-curve.curve in
    let p : Params = c.in_ok-chosen.chosen in
    let none : None ≡ refusal_of k bound r = c.in_ok-chosen.ensures.refused ∙ ap₂ (λ a b. refusal_of a bound b) c.k.ensures.value refl in
    let allowed = allowed_bound k bound (granted g.F.Field.BITS k bound pairs none).0 in
    let weight_is : p.w ≡ k - 1 = c.in_ok-chosen.ensures.weight ∙ ap (λ t. t - 1) c.k.ensures.value in
    let light : greatest (weight_by (k - 1)) q < p.e = subst (λ t. greatest (weight_by t) q < p.e) weight_is c.in_ok-curve.ensures.light in
    let agreement : IsAgreement bound r p.t = subst (λ t. IsAgreement bound t p.t) refl c.in_ok-chosen.ensures.chosen.agreement in
    let times : p.s ≤ bound * (k - 1) = subst (λ t. p.s ≤ bound * t) weight_is c.in_ok-chosen.ensures.multiplicity in
    let low : p.e ≤ (k - 1) * (r + bound - 1) =
    weight_low (k - 1) bound r p.t p.s p.e (some_readable g.F.Field.BITS k bound pairs none) agreement times c.in_ok-chosen.ensures.below in
    let few : greatest y_power q + 1 < r + bound = powers_few q (k - 1) bound r p.e c.in_ok-curve.ensures.nonzero allowed.0 light low in
    let are : AreParameters (k - 1) bound r p.t p.s p.e =
    subst (λ t. AreParameters (t - 1) bound r p.t p.s p.e) c.k.ensures.value
    (subst (λ t. AreParameters (c.k.result - 1) bound t p.t p.s p.e) refl c.in_ok-chosen.ensures.chosen) in
    let cost : g.I.Interpolate.cost p ≤ curve = most (are_enough g.F.Field.BITS k bound pairs (omega (arith, c.k.ensures.range.0, c.k.ensures.value)) none) p weight_is (c.in_ok-chosen.ensures.points ∙ refl) are in
    let first : c.curve.new.prods ≤ c.args.prods.now + curve = omega (arith, c.curve.ensures.products) in
    let second : c.poly_roots.new.prods ≤ c.curve.new.prods + k * ((greatest y_power q + 1) * (greatest y_power q + 1) * (256 + p.e * (greatest y_power q + 1))) =
    subst (λ t. greatest (weight_by (t - 1)) q < p.e → c.poly_roots.new.prods ≤ c.curve.new.prods + t * ((greatest y_power q + 1) * (greatest y_power q + 1) * (256 + p.e * (greatest y_power q + 1))))
    c.k-2.ensures.value (c.poly_roots.ensures.products p.e) light in
    let searched : c.poly_roots.new.prods ≤ c.args.prods.now + (curve + root_bound r k bound) =
    search_within k bound r p.e (greatest y_power q) few allowed.0 low curve c.args.prods.now c.curve.new.prods c.poly_roots.new.prods first second in
    omega arith

pub kept-requires-clause-bound : goal.kept-requires-clause-bound
kept-requires-clause-bound g c =
    let none : None ≡ refusal_of c.args.code.now.dimension c.args.c (length c.args.pairs.now) =
    c.in_ok-chosen.ensures.refused ∙ ap₂ (λ a b. refusal_of a c.args.c b) c.k.ensures.value refl in
    (allowed_bound c.args.code.now.dimension c.args.c (granted g.F.Field.BITS c.args.code.now.dimension c.args.c c.args.pairs.now none).0).1

pub kept-requires-clause-short : goal.kept-requires-clause-short
kept-requires-clause-short g c =
    subst (λ (t : List (List g.row.F.Denot)). All (λ root. length root ≤ c.args.code.now.dimension) t) (sym c.as_slice.ensures)
    (λ i d l. omega (arith, (c.in_ok-roots.ensures.these.only i d l).0, c.k-2.ensures.value))

pub returns-in_err-messages-clause-products : goal.returns-in_err-messages-clause-products
returns-in_err-messages-clause-products g c curve most =
    let R = g.F.Field.ring in
    let met = g.met.F.Field in
    let number : g.row.F.Denot → ℕ = g.F.Field.number in
    let k : ℕ = c.args.code.now.dimension in
    let n : ℕ = c.args.code.now.places in
    let bound : ℕ = c.args.c in
    let pairs : List Pair = c.args.pairs.now in
    let r : ℕ = length pairs in
    let q : Bivariate g.row.F.Denot = c.in_ok-curve.curve in
    let p : Params = c.in_ok-chosen.chosen in
    let none : None ≡ refusal_of k bound r = c.in_ok-chosen.ensures.refused ∙ ap₂ (λ a b. refusal_of a bound b) c.k.ensures.value refl in
    let allowed = allowed_bound k bound (granted g.F.Field.BITS k bound pairs none).0 in
    let weight_is : p.w ≡ k - 1 = c.in_ok-chosen.ensures.weight ∙ ap (λ t. t - 1) c.k.ensures.value in
    let light : greatest (weight_by (k - 1)) q < p.e = subst (λ t. greatest (weight_by t) q < p.e) weight_is c.in_ok-curve.ensures.light in
    let agreement : IsAgreement bound r p.t = subst (λ t. IsAgreement bound t p.t) refl c.in_ok-chosen.ensures.chosen.agreement in
    let times : p.s ≤ bound * (k - 1) = subst (λ t. p.s ≤ bound * t) weight_is c.in_ok-chosen.ensures.multiplicity in
    let low : p.e ≤ (k - 1) * (r + bound - 1) =
    weight_low (k - 1) bound r p.t p.s p.e (some_readable g.F.Field.BITS k bound pairs none) agreement times c.in_ok-chosen.ensures.below in
    let few : greatest y_power q + 1 < r + bound = powers_few q (k - 1) bound r p.e c.in_ok-curve.ensures.nonzero allowed.0 light low in
    let are : AreParameters (k - 1) bound r p.t p.s p.e =
    subst (λ t. AreParameters (t - 1) bound r p.t p.s p.e) c.k.ensures.value
    (subst (λ t. AreParameters (c.k.result - 1) bound t p.t p.s p.e) refl c.in_ok-chosen.ensures.chosen) in
    let cost : g.I.Interpolate.cost p ≤ curve = most (are_enough g.F.Field.BITS k bound pairs (omega (arith, c.k.ensures.range.0, c.k.ensures.value)) none) p weight_is (c.in_ok-chosen.ensures.points ∙ refl) are in
    let first : c.curve.new.prods ≤ c.args.prods.now + curve = omega (arith, c.curve.ensures.products) in
    let second : c.poly_roots.new.prods ≤ c.curve.new.prods + k * ((greatest y_power q + 1) * (greatest y_power q + 1) * (256 + p.e * (greatest y_power q + 1))) =
    subst (λ t. greatest (weight_by (t - 1)) q < p.e → c.poly_roots.new.prods ≤ c.curve.new.prods + t * ((greatest y_power q + 1) * (greatest y_power q + 1) * (256 + p.e * (greatest y_power q + 1))))
    c.k-2.ensures.value (c.poly_roots.ensures.products p.e) light in
    let searched : c.poly_roots.new.prods ≤ c.args.prods.now + (curve + root_bound r k bound) =
    search_within k bound r p.e (greatest y_power q) few allowed.0 low curve c.args.prods.now c.curve.new.prods c.poly_roots.new.prods first second in
    let count : length c.as_slice.result.now ≤ greatest y_power q = omega (arith, ap length c.as_slice.ensures, c.in_ok-roots.ensures.few) in
    comparing_within k bound r p.e (greatest y_power q) few allowed.0 low n curve c.args.prods.now c.poly_roots.new.prods c.kept.new.prods (length c.as_slice.result.now) count searched
    c.kept.ensures.products

pub returns-clause-recovered : goal.returns-clause-recovered
returns-clause-recovered g c =
    let R = g.F.Field.ring in
    let met = g.met.F.Field in
    let number : g.row.F.Denot → ℕ = g.F.Field.number in
    let k : ℕ = c.args.code.now.dimension in
    let n : ℕ = c.args.code.now.places in
    let bound : ℕ = c.args.c in
    let pairs : List Pair = c.args.pairs.now in
    let r : ℕ = length pairs in
    let q : Bivariate g.row.F.Denot = c.in_ok-curve.curve in
    let p : Params = c.in_ok-chosen.chosen in
    let none : None ≡ refusal_of k bound r = c.in_ok-chosen.ensures.refused ∙ ap₂ (λ a b. refusal_of a bound b) c.k.ensures.value refl in
    let allowed = allowed_bound k bound (granted g.F.Field.BITS k bound pairs none).0 in
    let weight_is : p.w ≡ k - 1 = c.in_ok-chosen.ensures.weight ∙ ap (λ t. t - 1) c.k.ensures.value in
    let light : greatest (weight_by (k - 1)) q < p.e = subst (λ t. greatest (weight_by t) q < p.e) weight_is c.in_ok-curve.ensures.light in
    let agreement : IsAgreement bound r p.t = subst (λ t. IsAgreement bound t p.t) refl c.in_ok-chosen.ensures.chosen.agreement in
    let roots : List (List g.row.F.Denot) = c.in_ok-roots.roots in
    let all : AreYRoots R number g.F.Field.Q q k roots = subst (λ t. AreYRoots R number g.F.Field.Q q t roots) c.k-2.ensures.value c.in_ok-roots.ensures.these in
    let zeros : All (λ x. HasMultiplicity R p.s q x.0 x.1) c.in_ok-points.points.items =
    subst (λ (t : List (g.row.F.Denot × g.row.F.Denot)). All (λ x. HasMultiplicity R p.s q x.0 x.1) t) c.deref.ensures.value c.in_ok-curve.ensures.multiplicity in
    let kept : filter (fits_enough g.F.Field.BITS k pairs bound) (map (λ (root : List g.row.F.Denot). packed g.F.Field.BITS (map number root)) roots) ≡ recovered g.F.Field.BITS k pairs bound =
    kept_are_recovered R met.field number g.F.Field.BITS g.F.Field.Q met.size met.below met.number_plus met.number_times met.number_nil met.number_unit met.same met.every k bound
    (omega (arith, c.k.ensures.range.0, c.k.ensures.value)) n pairs c.requires.pairs c.in_ok-points.points.items c.in_ok-points.ensures q p.s p.t p.e light c.in_ok-chosen.ensures.below agreement zeros roots all in
    answered g.F.Field.BITS k bound pairs none
    ∙ ap (λ (t : List ℕ). Ok t)
    (sym (c.over.ensures
    ∙ c.in_ok-messages.ensures.value
    ∙ ap (λ (t : List (List g.row.F.Denot)). filter (fits_enough g.F.Field.BITS k pairs bound) (map (λ root. packed g.F.Field.BITS (map number root)) t)) c.as_slice.ensures
    ∙ kept))

pub returns-clause-few : goal.returns-clause-few
returns-clause-few g c =
    let R = g.F.Field.ring in
    let met = g.met.F.Field in
    let number : g.row.F.Denot → ℕ = g.F.Field.number in
    let k : ℕ = c.args.code.now.dimension in
    let n : ℕ = c.args.code.now.places in
    let bound : ℕ = c.args.c in
    let pairs : List Pair = c.args.pairs.now in
    let r : ℕ = length pairs in
    let q : Bivariate g.row.F.Denot = c.in_ok-curve.curve in
    let p : Params = c.in_ok-chosen.chosen in
    let none : None ≡ refusal_of k bound r = c.in_ok-chosen.ensures.refused ∙ ap₂ (λ a b. refusal_of a bound b) c.k.ensures.value refl in
    let allowed = allowed_bound k bound (granted g.F.Field.BITS k bound pairs none).0 in
    let weight_is : p.w ≡ k - 1 = c.in_ok-chosen.ensures.weight ∙ ap (λ t. t - 1) c.k.ensures.value in
    let light : greatest (weight_by (k - 1)) q < p.e = subst (λ t. greatest (weight_by t) q < p.e) weight_is c.in_ok-curve.ensures.light in
    let agreement : IsAgreement bound r p.t = subst (λ t. IsAgreement bound t p.t) refl c.in_ok-chosen.ensures.chosen.agreement in
    let times : p.s ≤ bound * (k - 1) = subst (λ t. p.s ≤ bound * t) weight_is c.in_ok-chosen.ensures.multiplicity in
    let low : p.e ≤ (k - 1) * (r + bound - 1) =
    weight_low (k - 1) bound r p.t p.s p.e (some_readable g.F.Field.BITS k bound pairs none) agreement times c.in_ok-chosen.ensures.below in
    let few : greatest y_power q + 1 < r + bound = powers_few q (k - 1) bound r p.e c.in_ok-curve.ensures.nonzero allowed.0 light low in
    let messages : List ℕ = map (λ (root : List g.row.F.Denot). packed g.F.Field.BITS (map number root)) c.as_slice.result.now in
    let long : length c.over.result ≡ length (filter (fits_enough g.F.Field.BITS k pairs bound) messages) = ap length (c.over.ensures ∙ c.in_ok-messages.ensures.value) in
    let some : length (filter (fits_enough g.F.Field.BITS k pairs bound) messages) ≤ length messages =
    omega (arith, length-filter (fits_enough g.F.Field.BITS k pairs bound) messages, count_by-le-length (fits_enough g.F.Field.BITS k pairs bound) messages) in
    omega (arith, length-map c.as_slice.result.now (λ (root : List g.row.F.Denot). packed g.F.Field.BITS (map number root)), ap length c.as_slice.ensures, c.in_ok-roots.ensures.few)

pub returns-clause-products : goal.returns-clause-products
returns-clause-products g c curve most =
    let R = g.F.Field.ring in
    let met = g.met.F.Field in
    let number : g.row.F.Denot → ℕ = g.F.Field.number in
    let k : ℕ = c.args.code.now.dimension in
    let n : ℕ = c.args.code.now.places in
    let bound : ℕ = c.args.c in
    let pairs : List Pair = c.args.pairs.now in
    let r : ℕ = length pairs in
    let q : Bivariate g.row.F.Denot = c.in_ok-curve.curve in
    let p : Params = c.in_ok-chosen.chosen in
    let none : None ≡ refusal_of k bound r = c.in_ok-chosen.ensures.refused ∙ ap₂ (λ a b. refusal_of a bound b) c.k.ensures.value refl in
    let allowed = allowed_bound k bound (granted g.F.Field.BITS k bound pairs none).0 in
    let weight_is : p.w ≡ k - 1 = c.in_ok-chosen.ensures.weight ∙ ap (λ t. t - 1) c.k.ensures.value in
    let light : greatest (weight_by (k - 1)) q < p.e = subst (λ t. greatest (weight_by t) q < p.e) weight_is c.in_ok-curve.ensures.light in
    let agreement : IsAgreement bound r p.t = subst (λ t. IsAgreement bound t p.t) refl c.in_ok-chosen.ensures.chosen.agreement in
    let times : p.s ≤ bound * (k - 1) = subst (λ t. p.s ≤ bound * t) weight_is c.in_ok-chosen.ensures.multiplicity in
    let low : p.e ≤ (k - 1) * (r + bound - 1) =
    weight_low (k - 1) bound r p.t p.s p.e (some_readable g.F.Field.BITS k bound pairs none) agreement times c.in_ok-chosen.ensures.below in
    let few : greatest y_power q + 1 < r + bound = powers_few q (k - 1) bound r p.e c.in_ok-curve.ensures.nonzero allowed.0 light low in
    let are : AreParameters (k - 1) bound r p.t p.s p.e =
    subst (λ t. AreParameters (t - 1) bound r p.t p.s p.e) c.k.ensures.value
    (subst (λ t. AreParameters (c.k.result - 1) bound t p.t p.s p.e) refl c.in_ok-chosen.ensures.chosen) in
    let cost : g.I.Interpolate.cost p ≤ curve = most (are_enough g.F.Field.BITS k bound pairs (omega (arith, c.k.ensures.range.0, c.k.ensures.value)) none) p weight_is (c.in_ok-chosen.ensures.points ∙ refl) are in
    let first : c.curve.new.prods ≤ c.args.prods.now + curve = omega (arith, c.curve.ensures.products) in
    let second : c.poly_roots.new.prods ≤ c.curve.new.prods + k * ((greatest y_power q + 1) * (greatest y_power q + 1) * (256 + p.e * (greatest y_power q + 1))) =
    subst (λ t. greatest (weight_by (t - 1)) q < p.e → c.poly_roots.new.prods ≤ c.curve.new.prods + t * ((greatest y_power q + 1) * (greatest y_power q + 1) * (256 + p.e * (greatest y_power q + 1))))
    c.k-2.ensures.value (c.poly_roots.ensures.products p.e) light in
    let searched : c.poly_roots.new.prods ≤ c.args.prods.now + (curve + root_bound r k bound) =
    search_within k bound r p.e (greatest y_power q) few allowed.0 low curve c.args.prods.now c.curve.new.prods c.poly_roots.new.prods first second in
    let count : length c.as_slice.result.now ≤ greatest y_power q = omega (arith, ap length c.as_slice.ensures, c.in_ok-roots.ensures.few) in
    comparing_within k bound r p.e (greatest y_power q) few allowed.0 low n curve c.args.prods.now c.poly_roots.new.prods c.kept.new.prods (length c.as_slice.result.now) count searched
    c.kept.ensures.products
