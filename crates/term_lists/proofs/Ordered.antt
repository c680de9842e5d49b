-- Terms weight by weight.
use Rattle.std.proofs.Common.{◌≡◌, ◌⊎◌, inl, inr, ℕ, ◌+◌, ◌-◌, ◌*◌, ◌/◌, ◌<◌, ◌≤◌, List, [], length, refl, ◌∙◌, sym, ap, subst, arith}
use Rattle.std.proofs.lemmas.Bool.{cases_lt}
use Rattle.std.proofs.Math.Nat.{mul-le-mul_left, mul-div-le, le-div_iff_mul-le}
use Rattle.algebra.specs.Roots.{AreDifferent}
use Rattle.decoding_terms.specs.Parameters.{term_count}
use Rattle.decoding_terms.proofs.Terms.{term_count-next, term_count-rises}
use Rattle.term_lists.specs.declared.exponents.Exponents.{Exponents}
use Rattle.term_lists.specs.Extended.{IsExtended}
use Rattle.term_lists.specs.Places.{AreTermsBelow, exponents_at, place}

pub no_terms : (w : ℕ) → AreTermsBelow w 0 []
no_terms w = record { count = refl; light = λ k l. absurd (omega (arith, l)); placed = λ k l. absurd (omega (arith, l)); every = λ i j l. absurd (omega (arith, l)) }

-- the y of a term of this weight
few_y : (w e j : ℕ) → 1 ≤ w → j < e / w + 1 → w * j ≤ e
few_y w e j some l =
    let most : w * j ≤ w * (e / w) = mul-le-mul_left w (omega (arith, l)) in
    let down = mul-div-le e w in
    omega (arith, most, down)

is_y : (w e j : ℕ) → 1 ≤ w → w * j ≤ e → j < e / w + 1
is_y w e j some l =
    let up : j * w ≤ e = omega (arith, l) in
    let most : j ≤ e / w = (le-div_iff_mul-le {k = w} {x = j} {y = e} some).1 up in
    omega (arith, most)

-- a term that weighs less than e has a place among those
pub place_below : (w e i j : ℕ) → 1 ≤ w → i + w * j < e → place w i j < term_count w e
place_below w e i j some l =
    let d : ℕ = i + w * j in
    let y = is_y w d j some (omega arith) in
    let next = term_count-next w d some in
    let rises = term_count-rises w (d + 1) some (e - (d + 1)) in
    let whole : d + 1 + (e - (d + 1)) ≡ e = omega (arith, l) in
    let same : term_count w (d + 1 + (e - (d + 1))) ≡ term_count w e = ap (term_count w) whole in
    omega (arith, y, next, rises, same)

pub all_different : (w e : ℕ) (terms : List Exponents) → AreTermsBelow w e terms → AreDifferent (length terms) (exponents_at terms)
all_different w e terms below i j l m same = sym (below.placed i l) ∙ ap (λ (term : Exponents). place w term.x term.y) same ∙ below.placed j m

module _ (w e : ℕ) (some : 1 ≤ w) (old new : List Exponents) (below : AreTermsBelow w e old)
    (longer : IsExtended (λ j (term : Exponents). term ≡ record { x = e - w * j; y = j }) (record { x = 0; y = 0 }) old (e / w + 1) new) where
  new_at : (j : ℕ) → j < e / w + 1 → exponents_at new (term_count w e + j) ≡ record { x = e - w * j; y = j }
  new_at j l = subst (λ n. exponents_at new (n + j) ≡ record { x = e - w * j; y = j }) below.count (longer.after j l)

  counted : length new ≡ term_count w (e + 1)
  counted = omega (arith, longer.count, below.count, term_count-next w e some)

  -- what holds of the old terms and of the new ones
  by_place : (P : ℕ → Exponents → Type 0) → ((k : ℕ) → k < length old → P k (exponents_at old k))
      → ((j : ℕ) → w * j ≤ e → P (term_count w e + j) (record { x = e - w * j; y = j })) → (k : ℕ) → k < length new → P k (exponents_at new k)
  by_place P before after k l = by_order (cases_lt k (length old))
    where
      by_order : (k < length old) ⊎ (length old ≤ k) → P k (exponents_at new k)
      by_order (inl less) = subst (P k) (sym (longer.before k less)) (before k less)
      by_order (inr more) =
          let j : ℕ = k - length old in
          let inside : j < e / w + 1 = omega (arith, l, more, longer.count) in
          let here : term_count w e + j ≡ k = omega (arith, more, below.count) in
          subst (λ n. P n (exponents_at new n)) here (subst (P (term_count w e + j)) (sym (new_at j inside)) (after j (few_y w e j some inside)))

  pub next_weight : AreTermsBelow w (e + 1) new
  next_weight = record {
    count = counted;
    light = by_place (λ k (term : Exponents). term.x + w * term.y < e + 1) (λ k l. omega (arith, below.light k l)) (λ j l. omega (arith, l));
    placed = by_place (λ k (term : Exponents). place w term.x term.y ≡ k) below.placed
        (λ j l. let whole : e - w * j + w * j ≡ e = omega (arith, l) in ap (λ n. term_count w n + j) whole);
    every = λ i j l. by_weight i j l (cases_lt (i + w * j) e);
  }
    where
      by_weight : (i j : ℕ) → i + w * j < e + 1 → (i + w * j < e) ⊎ (e ≤ i + w * j) → exponents_at new (place w i j) ≡ record { x = i; y = j }
      by_weight i j l (inl less) = longer.before (place w i j) (omega (arith, place_below w e i j some less, below.count)) ∙ below.every i j less
      by_weight i j l (inr same) =
          let whole : i + w * j ≡ e = omega (arith, l, same) in
          let x : e - w * j ≡ i = omega (arith, whole) in
          ap (λ n. exponents_at new (term_count w n + j)) whole ∙ new_at j (is_y w e j some (omega (arith, whole))) ∙ ap (λ n. record { x = n; y = j }) x
