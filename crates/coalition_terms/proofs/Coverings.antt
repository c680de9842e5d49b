-- What passes a test, where each time some other test of a list passes: no more than all those tests let pass together.
use Rattle.std.proofs.Common.{◌≡◌, ℕ, zero, suc, ◌+◌, ◌*◌, ◌<◌, ◌≤◌, Bool, true, false, cond, List, [], ◌∷◌, length, All, refl, sym, ap, subst, ◌∙◌, arith}
use Rattle.std.specs.Prelude.{Contains}
use Rattle.std.specs.List.{sum_by, count_by}
use Rattle.std.proofs.lemmas.List.Sums.{sum_by-cons}

-- one for a test that passes
abbrev pub counted : Bool → ℕ
counted b = cond b 1 0

module _ {J : Type 0} where
  sum-le : (f g : J → ℕ) → ((j : J) → f j ≤ g j) → (members : List J) → sum_by f members ≤ sum_by g members
  sum-le f g less [] = omega arith
  sum-le f g less (j ∷ members) = omega (arith, sum_by-cons f j members, sum_by-cons g j members, less j, sum-le f g less members)

  -- a sum whose terms are no smaller, of which one is greater
  sum-lt : (f g : J → ℕ) → ((j : J) → f j ≤ g j) → (members : List J) (j : J) → Contains members j → f j < g j → sum_by f members < sum_by g members
  sum-lt f g less [] j at more = absurd (omega (arith, at.1))
  sum-lt f g less (i ∷ members) j (zero, within, is) more =
      let bigger : f i < g i = subst (λ t. f t < g t) (sym is) more in
      omega (arith, sum_by-cons f i members, sum_by-cons g i members, sum-le f g less members)
  sum-lt f g less (i ∷ members) j (suc k, within, is) more =
      omega (arith, sum_by-cons f i members, sum_by-cons g i members, less i, sum-lt f g less members j (k, omega arith, is) more)

  -- a sum of terms that are all below a bound, where there are no more than so many of them
  pub sum-below : (f : J → ℕ) (c r : ℕ) (members : List J) → All (λ j. f j * c < r) members → sum_by f members * c + length members ≤ length members * r
  sum-below f c r [] each = omega arith
  sum-below f c r (j ∷ members) each =
      let first : f j * c < r = each 0 j (omega arith) in
      let rest : sum_by f members * c + length members ≤ length members * r = sum-below f c r members (λ k d within. each (suc k) d (omega arith)) in
      let split : sum_by f (j ∷ members) * c ≡ f j * c + sum_by f members * c = ap (λ t. t * c) (sum_by-cons f j members) ∙ omega arith in
      let more : suc (length members) * r ≡ r + length members * r = omega arith in
      omega arith

  module _ {X : Type 0} (p : X → Bool) (q : J → X → Bool) where
    -- where x passes p, it passes the test of some member
    abbrev pub IsCovered : List J → X → Type 0
    IsCovered members x = p x ≡ true → (j : J) × Contains members j × (q j x ≡ true)

    one_more : (x : X) (xs : List X) (j : J) (b : Bool) → q j x ≡ b → count_by (q j) xs + counted b ≡ count_by (q j) (x ∷ xs)
    one_more x xs j b is = omega (arith, sum_by-cons (λ y. counted (q j y)) x xs, ap counted is)

    no_less : (x : X) (xs : List X) (j : J) → count_by (q j) xs ≤ count_by (q j) (x ∷ xs)
    no_less x xs j = omega (arith, one_more x xs j (q j x) refl)

    covered_step : (members : List J) (x : X) (xs : List X) (b : Bool) → p x ≡ b → IsCovered members x
        → counted b + sum_by (λ j. count_by (q j) xs) members ≤ sum_by (λ j. count_by (q j) (x ∷ xs)) members
    covered_step members x xs true is cover =
        let some = cover is in
        let more : count_by (q some.0) xs < count_by (q some.0) (x ∷ xs) = omega (arith, one_more x xs some.0 true some.2) in
        omega (arith, sum-lt (λ j. count_by (q j) xs) (λ j. count_by (q j) (x ∷ xs)) (no_less x xs) members some.0 some.1 more)
    covered_step members x xs false is cover =
        omega (arith, sum-le (λ j. count_by (q j) xs) (λ j. count_by (q j) (x ∷ xs)) (no_less x xs) members)

    pub covered : (members : List J) (xs : List X) → All (IsCovered members) xs → count_by p xs ≤ sum_by (λ j. count_by (q j) xs) members
    covered members [] each = omega arith
    covered members (x ∷ xs) each =
        let rest : count_by p xs ≤ sum_by (λ j. count_by (q j) xs) members = covered members xs (λ k d within. each (suc k) d (omega arith)) in
        omega (arith, sum_by-cons (λ y. counted (p y)) x xs, covered_step members x xs (p x) refl (each 0 x (omega arith)))
