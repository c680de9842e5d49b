-- A curve that meets all conditions is what is looked for, and the products that it takes.
use Rattle.gs_koetter.proofs.Parts.{drop_long}
use Rattle.gs_koetter.specs.Shapes.{coefs_of}
use Rattle.std.proofs.Common.{◌≡◌, ◌≢◌, ◌⊎◌, inl, inr, ℕ, zero, suc, ◌+◌, ◌-◌, ◌*◌, ◌/◌, ◌<◌, ◌≤◌, List, length, Option, None, Some, Ok, Err, refl, ◌∙◌, sym, ap, subst, arith}
use Rattle.std.proofs.lemmas.Bool.{cases_lt}
use Rattle.std.proofs.lemmas.List.{get_or_default}
use Rattle.std.proofs.Math.Nat.{div-add-mod, mod-lt, mul-div-le, mul-le-mul_left, mul-le-mul_right}
use Rattle.std.specs.FinMap.{empty, get, get-empty}
use Rattle.std.specs.List.{All}
use Rattle.std.specs.Result.{IfOk}
use Rattle.std.specs.declared.result.Result.{Result}
use Rattle.std.specs.Option.{unwrap_or}
use Rattle.algebra.specs.Bivariate.{Bivariate, HasMultiplicity, IsWithin, coefficient, greatest, hasse_derivative, pair_cmp, weight, weight_by}
use Rattle.algebra.specs.Ring.{Ring}
use Rattle.algebra.specs.Sums.{sum_below}
use Rattle.algebra.proofs.Entries.{greatest_least, terms_sum}
use Rattle.algebra.proofs.RingLaws.{ring}
use Rattle.algebra.proofs.Sums.{sum_exchange, sum_same, sum_scaled}
use Rattle.decoding_terms.specs.Parameters.{equation_count, term_count}
use Rattle.decoding_terms.proofs.Terms.{many}
use Rattle.term_lists.proofs.Orders.{orders_count, triangle}
use Rattle.algebra.specs.Roots.{total}
use Rattle.gs_koetter.proofs.Ending.{terms_by_power}
use Rattle.koetter_terms.specs.Curves.{curve}
use Rattle.koetter_terms.specs.Derivatives.{derivative, derivative_at}
use Rattle.koetter_terms.proofs.Derivatives.{derivative_is}
use Rattle.koetter_terms.proofs.Steps.{past_weight}
use Rattle.term_lists.specs.declared.exponents.Exponents.{Exponents}
use Rattle.term_lists.specs.Places.{AreTermsBelow, exponents_at, place}
use Rattle.term_lists.specs.Polynomials.{HasTerms}
use Rattle.term_lists.proofs.Ordered.{place_below}
use Rattle.gs_koetter.specs.declared.curve.Curve.{Curve}
use Rattle.gs_koetter.specs.Results.{IsResult}
use Rattle.gs_koetter.specs.States.{point_at, point_products}
use Rattle.gs_koetter.proofs.Laying.{few_columns}

-- what is promised of a curve
pub record IsFound {F : Type 0} (R : Ring F) (points : List (F × F)) (w e s : ℕ) (q : Bivariate F) : Type 0 where
  pub nonzero : q ≢ empty
  pub light : greatest (weight_by w) q < e
  pub multiplicity : All (λ p. HasMultiplicity R s q p.0 p.1) points

module _ {F : Type 0} (R : Ring F) (w e n s : ℕ) (some : 1 ≤ w) (wide : e ≤ w * n) (terms : List Exponents) (below : AreTermsBelow w e terms) (points : List (F × F)) (c : Curve F) (is : IsResult R w e n s points c)
    (q : Bivariate F) (has : HasTerms R terms (coefs_of c) (length (coefs_of c)) q) where
  infixl 60 ◌⊕◌
  infixl 70 ◌⊗◌
  open R use {nil, unit, plus as ◌⊕◌, times as ◌⊗◌}

  coefs_long : length (coefs_of c) ≡ term_count w e
  coefs_long = drop_long c.list.items c.orders (term_count 1 s) (term_count w e) is.shape.list is.shape.orders

  long : length (coefs_of c) ≡ length terms
  long = coefs_long ∙ sym below.count

  -- only terms that weigh less than e stand in the polynomial
  light_term : (i j : ℕ) → get q (i, j) ≢ None → i + w * j < e
  light_term i j there =
      let at = has.only i j there in
      let less = below.light at.0 (omega (arith, at.1, long)) in
      let same : (exponents_at terms at.0).x + w * (exponents_at terms at.0).y ≡ i + w * j = ap (λ (t : Exponents). t.x + w * t.y) at.2 in
      omega (arith, less, same)

  light_coefficient : (i j : ℕ) → i + w * j < e → coefficient R q i j ≡ curve R w (coefs_of c) i j
  light_coefficient i j l =
      let at = below.every i j l in
      let inside = place_below w e i j some l in
      ap (λ (t : Exponents). coefficient R q t.x t.y) (sym at) ∙ has.each (place w i j) (omega (arith, inside, coefs_long))

  -- the coefficients are those of the list
  coefficients_are : (i j : ℕ) → coefficient R q i j ≡ curve R w (coefs_of c) i j
  coefficients_are i j = by_order (cases_lt (i + w * j) e)
    where
      by_entry : (o : Option F) → get q (i, j) ≡ o → e ≤ i + w * j → unwrap_or o nil ≡ nil
      by_entry None there l = refl
      by_entry (Some x) there l = absurd (omega (arith, l, light_term i j (λ none. some_none x (sym there ∙ none))))
        where
          some_none : (x : F) → ◌≡◌ {A = Option F} (Some x) None → ⊥
          some_none x e = subst Holds e tt
            where
              Holds : Option F → Type 0
              Holds None = ⊥
              Holds (Some x) = Unit {0}

      by_order : (i + w * j < e) ⊎ (e ≤ i + w * j) → coefficient R q i j ≡ curve R w (coefs_of c) i j
      by_order (inl less) = light_coefficient i j less
      by_order (inr most) = by_entry (get q (i, j)) refl most ∙ sym (past_weight R w some c.exponent is.j e (coefs_of c) is.shape.ends is.shape.light i j most)

  within : IsWithin e n q
  within i j there =
      let l = light_term i j there in
      (omega (arith, l), few_columns w e n i j l wide)

  derivatives : (a b : F) (u v : ℕ) → hasse_derivative R q u v a b ≡ derivative_at R e n (curve R w (coefs_of c)) a b u v
  derivatives a b u v =
      let p : ℕ → ℕ → F = curve R w (coefs_of c) in
      let swap : (i j : ℕ) → p i j ⊗ weight R a i u ⊗ weight R b j v ≡ weight R b j v ⊗ (p i j ⊗ weight R a i u) = λ i j. simp ring in
      terms_sum R (λ i j c. c ⊗ weight R a i u ⊗ weight R b j v) split e n q within
      ∙ sum_same R e (λ i. sum_below R n (λ j. coefficient R q i j ⊗ weight R a i u ⊗ weight R b j v)) (λ i. sum_below R n (λ j. weight R b j v ⊗ (p i j ⊗ weight R a i u)))
      (λ i l. sum_same R n (λ j. coefficient R q i j ⊗ weight R a i u ⊗ weight R b j v) (λ j. weight R b j v ⊗ (p i j ⊗ weight R a i u))
      (λ j m. ap (λ t. t ⊗ weight R a i u ⊗ weight R b j v) (coefficients_are i j) ∙ swap i j))
      ∙ sum_exchange R e n (λ i j. weight R b j v ⊗ (p i j ⊗ weight R a i u))
      ∙ sum_same R n (λ j. sum_below R e (λ i. weight R b j v ⊗ (p i j ⊗ weight R a i u))) (λ j. derivative R e (λ i. p i j) a u ⊗ weight R b j v)
      (λ j m. sum_scaled R e (weight R b j v) (λ i. p i j ⊗ weight R a i u) ∙ ap (λ t. weight R b j v ⊗ t) (sym (derivative_is R e (λ i. p i j) a u)) ∙ R.times_comm (weight R b j v) (derivative R e (λ i. p i j) a u))
      ∙ sym (derivative_is R n (λ j. derivative R e (λ i. p i j) a u) b v)
    where
      split : (i j : ℕ) (x y : F) → (x ⊕ y) ⊗ weight R a i u ⊗ weight R b j v ≡ x ⊗ weight R a i u ⊗ weight R b j v ⊕ y ⊗ weight R a i u ⊗ weight R b j v
      split i j x y = simp ring

  pub found : 1 ≤ e → IsFound R points w e s q
  found positive = record {
    nonzero = λ none. is.lead (sym (coefficients_are c.exponent is.j) ∙ ap (λ (t : Bivariate F). coefficient R t c.exponent is.j) none ∙ ap (λ o. unwrap_or o nil) (get-empty pair_cmp (c.exponent, is.j)));
    light =
        let most : greatest (weight_by w) q ≤ e - 1 = greatest_least (weight_by w) q (e - 1) (λ i j there. let l = light_term i j there in omega (arith, l)) in
        omega (arith, most, positive);
    multiplicity = λ p d l.
        subst (λ t. HasMultiplicity R s q t.0 t.1) (get_or_default points p (nil, nil) d l)
        (λ u v few. derivatives (point_at R points p).0 (point_at R points p).1 u v ∙ is.meets p u v l few);
  }

-- the powers of y whose weight is below e
module _ (w e : ℕ) (some : 1 ≤ w) (positive : 1 ≤ e) where
  pub powers_light : w * ((e - 1) / w + 1 - 1) < e
  powers_light =
      let down : w * ((e - 1) / w) ≤ e - 1 = mul-div-le (e - 1) w in
      let one : (e - 1) / w + 1 - 1 ≡ (e - 1) / w = omega arith in
      let same : w * ((e - 1) / w + 1 - 1) ≡ w * ((e - 1) / w) = ap (λ n. w * n) one in
      omega (arith, down, same, positive)

  pub powers_enough : e ≤ w * ((e - 1) / w + 1)
  powers_enough =
      let whole = div-add-mod (e - 1) w in
      let rest = mod-lt (e - 1) some in
      omega (arith, whole, rest, positive)

  pub powers_few : (e - 1) / w + 1 ≤ e
  powers_few =
      let down : w * ((e - 1) / w) ≤ e - 1 = mul-div-le (e - 1) w in
      let once : 1 * ((e - 1) / w) ≤ w * ((e - 1) / w) = mul-le-mul_right ((e - 1) / w) some in
      omega (arith, down, once, positive)

-- twice the number of terms
rows_twice : (w e k : ℕ) → w * k ≤ e + w → 2 * total k (λ j. e - w * j) + w * (k * k) ≡ 2 * (k * e) + w * k
rows_twice w e zero l = omega arith
rows_twice w e (suc k) l =
    let here : w * k ≤ e = omega (arith, l) in
    let before = rows_twice w e k (omega (arith, here)) in
    let last : e - w * k + w * k ≡ e = omega (arith, here) in
    let square : w * (suc k * suc k) ≡ w * (k * k) + 2 * (w * k) + w = omega arith in
    omega (arith, before, last, square)

-- the rectangle of powers is no more than twice the terms
pub rectangle : (w e n : ℕ) → 1 ≤ w → 1 ≤ n → e ≤ w * n → w * (n - 1) < e → e * n + n ≤ 2 * term_count w e
rectangle w e n some positive all light =
    let d : ℕ = n - 1 in
    let is : n ≡ d + 1 = omega (arith, positive) in
    let low : w * n ≤ e + w = let split : w * n ≡ w * d + w = ap (λ k. w * k) is ∙ omega arith in omega (arith, split, light) in
    let twice = rows_twice w e n low in
    let counted : term_count w e ≡ total n (λ j. e - w * j) = terms_by_power w e n some all in
    let less : n * (w * d + 1) ≤ n * e = mul-le-mul_left n (omega (arith, light)) in
    let square : w * (n * n) ≡ n * (w * d) + w * n = ap (λ k. w * (n * k)) is ∙ omega arith in
    omega (arith, twice, counted, less, square)

-- the products of one point
point_bound : (e n s t terms : ℕ) → 1 ≤ e → 1 ≤ t → 1 ≤ n → s ≤ t → e ≤ terms → n ≤ terms → e * n + n ≤ 2 * terms → t + 1 ≤ terms
    → 2 * t ≡ s * (s + 1) → e + n + n * (s * (e * n) + s * (n * s)) + t * (1 + terms + n * (1 + terms + t)) ≤ 8 * (t * (n * terms))
point_bound e n s t terms some_e some_t some_n few low short twice small square =
    let more : ℕ = t - s in
    let split : t ≡ s + more = omega (arith, few) in
    let wide : t * (e * n) ≡ (s + more) * (e * n) = ap (λ k. k * (e * n)) split in
    let low_rows : t * n ≡ (s + more) * n = ap (λ k. k * n) split in
    let row : 1 * n ≤ e * n = mul-le-mul_right n some_e in
    let a : more * (1 * n) ≤ more * (e * n) = mul-le-mul_left more row in
    let both : 2 * t * n ≡ s * (s + 1) * n = ap (λ k. k * n) square in
    let b : t * (e * n + n) ≤ t * (2 * terms) = mul-le-mul_left t twice in
    let inner : s * (e * n) + s * (n * s) ≤ t * (2 * terms) = omega (arith, wide, low_rows, a, both, b) in
    let c : n * (s * (e * n) + s * (n * s)) ≤ n * (t * (2 * terms)) = mul-le-mul_left n inner in
    let d : n * (1 + terms + t) ≤ n * (2 * terms) = mul-le-mul_left n (omega (arith, small)) in
    let f : t * (1 + terms + n * (1 + terms + t)) ≤ t * (2 * terms + n * (2 * terms)) = mul-le-mul_left t (omega (arith, d, small)) in
    let g : 1 * terms ≤ n * terms = mul-le-mul_right terms some_n in
    let h : t * (1 * terms) ≤ t * (n * terms) = mul-le-mul_left t g in
    let i : 1 * (n * terms) ≤ t * (n * terms) = mul-le-mul_right (n * terms) some_t in
    omega (arith, c, f, g, h, i, low, short)

-- the products of all points
pub all_products : (r s w e n rows cols old new : ℕ) → 1 ≤ w → 1 ≤ r → 1 ≤ s → 1 ≤ e → n ≡ (e - 1) / w + 1 → rows ≡ equation_count r s → cols ≡ term_count w e → rows < term_count w e
    → new ≤ old + r * (e + n + n * (s * (e * n) + s * (n * s)) + term_count 1 s * (1 + term_count w e + n * (1 + term_count w e + term_count 1 s)))
    → new ≤ old + 8 * rows * ((e - 1) / w + 1) * cols
all_products r s w e n rows cols old new some_w some_r some_s some_e n_is rows_is cols_is less spent =
    let t : ℕ = term_count 1 s in
    let few : s ≤ t = many 1 s (omega arith) in
    let each : r * t ≡ rows = orders_count r s ∙ sym rows_is in
    let once : 1 * t ≤ r * t = mul-le-mul_right t some_r in
    let light : w * (n - 1) < e = subst (λ k. w * (k - 1) < e) (sym n_is) (powers_light w e some_w some_e) in
    let enough : e ≤ w * n = subst (λ k. e ≤ w * k) (sym n_is) (powers_enough w e some_w some_e) in
    let short : n ≤ e = subst (λ k. k ≤ e) (sym n_is) (powers_few w e some_w some_e) in
    let low : e ≤ term_count w e = many w e some_w in
    let positive : 1 ≤ n = omega (arith, n_is) in
    let one = point_bound e n s t (term_count w e) some_e (omega (arith, few, some_s)) positive few low (omega (arith, short, low)) (rectangle w e n some_w positive enough light) (omega (arith, once, each, less)) (triangle s) in
    let all : r * (e + n + n * (s * (e * n) + s * (n * s)) + t * (1 + term_count w e + n * (1 + term_count w e + t))) ≤ r * (8 * (t * (n * term_count w e))) = mul-le-mul_left r one in
    let whole : r * (8 * (t * (n * term_count w e))) ≡ 8 * (r * t) * n * term_count w e = omega arith in
    let named : 8 * (r * t) * n * term_count w e ≡ 8 * rows * ((e - 1) / w + 1) * cols =
    ap (λ k. 8 * k * n * term_count w e) each ∙ ap (λ k. 8 * rows * k * term_count w e) n_is ∙ ap (λ k. 8 * rows * ((e - 1) / w + 1) * k) (sym cols_is) in
    omega (arith, spent, all, whole, named)

pub ok_then : {T E : Type 0} (P Q : T → Type 0) (r : Result T E) → ((x : T) → P x → Q x) → IfOk r P → IfOk r Q
ok_then P Q (Ok x) f h = f x h
ok_then P Q (Err e) f h = tt

-- the same for numbers that are known to be equal
pub all_found : {F E : Type 0} (R : Ring F) (w e n s v d t : ℕ) (terms list : List Exponents) (points : List (F × F)) (c : Curve F) (coefs : List F) (r : Result (Bivariate F) E) → 1 ≤ w → 1 ≤ d → e ≤ w * n → AreTermsBelow w e terms
    → IsResult R w e n s points c → list ≡ terms → coefs ≡ (coefs_of c) → w ≡ v → e ≡ d → s ≡ t → IfOk r (HasTerms R list coefs (length coefs)) → IfOk r (IsFound R points v d t)
all_found R w e n s v d t terms list points c coefs r some positive wide below is same_list same_coefs same_w same_e same_s has =
    let there : IfOk r (HasTerms R terms (coefs_of c) (length (coefs_of c))) = subst (λ l. IfOk r (HasTerms R l (coefs_of c) (length (coefs_of c)))) same_list (subst (λ l. IfOk r (HasTerms R list l (length l))) same_coefs has) in
    subst (λ x. IfOk r (IsFound R points x d t)) same_w
    (subst (λ x. IfOk r (IsFound R points w x t)) same_e
    (subst (λ x. IfOk r (IsFound R points w e x)) same_s
    (ok_then (HasTerms R terms (coefs_of c) (length (coefs_of c))) (IsFound R points w e s) r (λ q has. found R w e n s some wide terms below points c is q has (omega (arith, positive, same_e))) there)))

pub same_products : (r w e s n count frame_w frame_e frame_s : ℕ) → count ≡ r → frame_w ≡ w → frame_e ≡ e → frame_s ≡ s → count * point_products frame_w frame_e n frame_s ≡ r * point_products w e n s
same_products r w e s n count frame_w frame_e frame_s same_r same_w same_e same_s =
    ap (λ k. k * point_products frame_w frame_e n frame_s) same_r ∙ ap (λ k. r * point_products k frame_e n frame_s) same_w ∙ ap (λ k. r * point_products w k n frame_s) same_e ∙ ap (λ k. r * point_products w e n k) same_s

-- the powers in the terms are small
pub low_terms : (w e : ℕ) (terms list : List Exponents) → 1 ≤ w → e ≤ 4096 → AreTermsBelow w e terms → list ≡ terms → (k : ℕ) → k < length list → ((exponents_at list k).x < 4096) × ((exponents_at list k).y < 4096)
low_terms w e terms list some low below same k l =
    let light = (subst (AreTermsBelow w e) (sym same) below).light k l in
    let once : 1 * (exponents_at list k).y ≤ w * (exponents_at list k).y = mul-le-mul_right (exponents_at list k).y some in
    (omega (arith, light, low), omega (arith, light, low, once))
