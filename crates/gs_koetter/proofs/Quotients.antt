-- Terms divided by x.
use Rattle.std.proofs.Common.{◌≡◌, ◌≢◌, ℕ, zero, suc, ◌+◌, ◌-◌, ◌*◌, ◌/◌, ◌<◌, ◌≤◌, List, [], length, get_or, refl, ◌∙◌, ap, subst, arith}
use Rattle.koetter_terms.specs.Curves.{AreQuotients}
use Rattle.koetter_terms.proofs.Places.{place_next}
use Rattle.term_lists.specs.declared.exponents.Exponents.{Exponents}
use Rattle.term_lists.specs.Extended.{IsExtended}
use Rattle.term_lists.specs.Places.{AreTermsBelow, exponents_at, place}
use Rattle.term_lists.proofs.Ordered.{place_below}

-- the place of a term divided by x
pub less_by : (w x y k : ℕ) → 1 ≤ w → x ≢ 0 → place w x y ≡ k → k ≡ place w (x - 1) y + ((x - 1 + w * y) / w + 1)
less_by w zero y k some not is = absurd (not refl)
less_by w (suc x) y k some not is =
    let one : suc x - 1 ≡ x = omega arith in
    let next = place_next w some x y in
    rw one (omega (arith, is, next))

pub record IsQuotient (w none : ℕ) (term : Exponents) (quotient : ℕ) : Type 0 where
  pub divided : (i : ℕ) → term.x ≡ suc i → quotient ≡ place w i term.y
  pub others : term.x ≡ 0 → quotient ≡ none

pub all_quotients : (w e : ℕ) (terms : List Exponents) (quotients : List ℕ) → 1 ≤ w → AreTermsBelow w e terms
    → IsExtended (λ k quotient. IsQuotient w (length terms) (exponents_at terms k) quotient) 0 [] (length terms) quotients → AreQuotients w e quotients
all_quotients w e terms quotients some below all = record {
  count = omega (arith, all.count, below.count);
  divided = λ i j l.
      let at : exponents_at terms (place w (suc i) j) ≡ record { x = suc i; y = j } = below.every (suc i) j l in
      let inside : place w (suc i) j < length terms = omega (arith, place_below w e (suc i) j some l, below.count) in
      (after (place w (suc i) j) inside).divided i (ap (λ (t : Exponents). t.x) at) ∙ ap (λ (t : Exponents). place w i t.y) at;
  others = λ j l.
      let at : exponents_at terms (place w 0 j) ≡ record { x = 0; y = j } = below.every 0 j (omega (arith, l)) in
      let inside : place w 0 j < length terms = omega (arith, place_below w e 0 j some (omega (arith, l)), below.count) in
      let is : get_or quotients (place w 0 j) 0 ≡ length terms = (after (place w 0 j) inside).others (ap (λ (t : Exponents). t.x) at) in
      omega (arith, is, below.count);
}
  where
    after : (k : ℕ) → k < length terms → IsQuotient w (length terms) (exponents_at terms k) (get_or quotients k 0)
    after k l = let none : length {A = ℕ} [] + k ≡ k = omega arith in subst (λ n. IsQuotient w (length terms) (exponents_at terms k) (get_or quotients n 0)) none (all.after k l)
