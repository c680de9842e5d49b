-- The first place at which a test passes, and what it is after one more element.
use Rattle.std.proofs.Common.{◌≡◌, ℕ, ◌+◌, ◌<◌, ◌≤◌, Bool, true, false, cond, ltb, List, [], ◌∷◌, ◌++◌, length, Some, None, refl, sym, ◌∙◌, arith, length-append, inl, inr}
use Rattle.std.specs.List.{position, position_or_len}
use Rattle.std.proofs.lemmas.Bool.{cases_Bool, cases_lt, ltb-true, ltb-false, lt-ltb, le-ltb, eq-eqb, ne_eqb, cond-true, cond-false}
use Rattle.std.proofs.lemmas.List.Sums.{prefix_len-le-length}
use Rattle.std.proofs.lemmas.List.Folds.{position_or_len_push}

first-le : {X : Type 0} (p : X → Bool) (xs : List X) → position_or_len p xs ≤ length xs
first-le p xs = prefix_len-le-length _ xs

pub no_place : {X : Type 0} (p : X → Bool) (xs : List X) → position p xs ≡ None → position_or_len p xs ≡ length xs
no_place p xs none =
    elim (cases_Bool (ltb (position_or_len p xs) (length xs))) [
      | inl is ↦ let found = cond-true (ltb (position_or_len p xs) (length xs)) (Some (position_or_len p xs)) None is in absurd (cc (found, none))
      | inr is_not ↦ omega (arith, ltb-false (position_or_len p xs) (length xs) is_not, first-le p xs)
    ]

place_is : (here : Bool) (first i : ℕ) → cond here (Some first) None ≡ Some i → (here ≡ true) × (first ≡ i)
place_is true first i is = (refl, cc)
place_is false first i is = absurd cc

pub some_place : {X : Type 0} (p : X → Bool) (xs : List X) (i : ℕ) → position p xs ≡ Some i → (i < length xs) × (position_or_len p xs ≡ i)
some_place p xs i found =
    let at = place_is (ltb (position_or_len p xs) (length xs)) (position_or_len p xs) i found in
    (omega (arith, ltb-true (position_or_len p xs) (length xs) at.0, at.1), at.1)

pub at_place : {X : Type 0} (p : X → Bool) (xs : List X) (i : ℕ) → i < length xs → position_or_len p xs ≡ i → position p xs ≡ Some i
at_place p xs i lt is = rw (is, lt-ltb i (length xs) lt) refl

pub past_places : {X : Type 0} (p : X → Bool) (xs : List X) → length xs ≤ position_or_len p xs → position p xs ≡ None
past_places p xs le = cond-false (ltb (position_or_len p xs) (length xs)) (Some (position_or_len p xs)) None (le-ltb (position_or_len p xs) (length xs) le)

-- one more element that fails
kept : {X : Type 0} (p : X → Bool) (xs : List X) (y : X) → p y ≡ false → position p (xs ++ y ∷ []) ≡ position p xs
kept p xs y is_not =
    elim (cases_lt (position_or_len p xs) (length xs)) [
      | inl lt ↦
          let first : position_or_len p (xs ++ y ∷ []) ≡ position_or_len p xs = position_or_len_push p xs y ∙ rw (ne_eqb (position_or_len p xs) (length xs) (λ e. omega arith)) refl in
          at_place p (xs ++ y ∷ []) (position_or_len p xs) (omega (arith, length-append xs (y ∷ []))) first ∙ sym (at_place p xs (position_or_len p xs) lt refl)
      | inr le ↦
          let all : position_or_len p xs ≡ length xs = omega (arith, first-le p xs) in
          let first : position_or_len p (xs ++ y ∷ []) ≡ length xs + 1 = position_or_len_push p xs y ∙ rw (eq-eqb (position_or_len p xs) (length xs) all, is_not) refl in
          past_places p (xs ++ y ∷ []) (omega (arith, length-append xs (y ∷ []))) ∙ sym (past_places p xs le)
    ]

-- one more element
pub position_push : {X : Type 0} (p : X → Bool) (xs : List X) (y : X) → (p y ≡ true → position p xs ≡ None) → position p (xs ++ y ∷ []) ≡ cond (p y) (Some (length xs)) (position p xs)
position_push p xs y new =
    elim (cases_Bool (p y)) [
      | inl is ↦
          let all = no_place p xs (new is) in
          let first : position_or_len p (xs ++ y ∷ []) ≡ length xs = position_or_len_push p xs y ∙ rw (eq-eqb (position_or_len p xs) (length xs) all, is) (omega arith) in
          at_place p (xs ++ y ∷ []) (length xs) (omega (arith, length-append xs (y ∷ []))) first ∙ sym (cond-true (p y) (Some (length xs)) (position p xs) is)
      | inr is_not ↦ kept p xs y is_not ∙ sym (cond-false (p y) (Some (length xs)) (position p xs) is_not)
    ]
