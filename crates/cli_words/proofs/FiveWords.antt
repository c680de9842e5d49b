-- The five words of `register`, taken one by one from a list.
use Rattle.std.proofs.Common.{◌≡◌, ◌≢◌, ℕ, List, [], ◌∷◌, map, length, get_or, None, refl, arith}
use Rattle.outcome_terms.specs.RegisterCommand.{make_of, make_from}

module _ {X : Type 0} (f : X → List ℕ) where
  -- any other number of words is no command
  pub make_of_other : (xs : List X) → length xs ≢ 5 → None ≡ make_of (map f xs)
  unfolding make_of
  make_of_other [] h = refl
  make_of_other (a ∷ []) h = refl
  make_of_other (a ∷ b ∷ []) h = refl
  make_of_other (a ∷ b ∷ c ∷ []) h = refl
  make_of_other (a ∷ b ∷ c ∷ d ∷ []) h = refl
  make_of_other (a ∷ b ∷ c ∷ d ∷ e ∷ []) h = absurd (h refl)
  make_of_other (a ∷ b ∷ c ∷ d ∷ e ∷ g ∷ more) h = refl

  pub make_of_five : (xs : List X) (m k a b out : X) → length xs ≡ 5 → m ≡ get_or xs 0 m → k ≡ get_or xs 1 k → a ≡ get_or xs 2 a → b ≡ get_or xs 3 b → out ≡ get_or xs 4 out
      → make_from (f m) (f k) (f a) (f b) (f out) ≡ make_of (map f xs)
  unfolding make_of
  make_of_five [] m k a b out h p q r s t = absurd (omega arith)
  make_of_five (v ∷ []) m k a b out h p q r s t = absurd (omega arith)
  make_of_five (v ∷ w ∷ []) m k a b out h p q r s t = absurd (omega arith)
  make_of_five (v ∷ w ∷ x ∷ []) m k a b out h p q r s t = absurd (omega arith)
  make_of_five (v ∷ w ∷ x ∷ y ∷ []) m k a b out h p q r s t = absurd (omega arith)
  make_of_five (v ∷ w ∷ x ∷ y ∷ z ∷ []) m k a b out h p q r s t = cc
  make_of_five (v ∷ w ∷ x ∷ y ∷ z ∷ u ∷ more) m k a b out h p q r s t = absurd (omega arith)
