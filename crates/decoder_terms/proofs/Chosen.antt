-- A list of numbers that ascends is told by the numbers in it.
use Rattle.std.proofs.Common.{◌≡◌, ◌≢◌, ℕ, zero, suc, ◌+◌, ◌<◌, ◌≤◌, Bool, true, false, cond, List, [], ◌∷◌, length, get_or, All, AllPairs, Contains, filter, refl, sym, ◌∙◌, ap, arith}
use Rattle.std.specs.List.{range_with_len}

-- the numbers from a on and below limit that pass, in ascending order
pub record ArePassing (p : ℕ → Bool) (a limit : ℕ) (xs : List ℕ) : Type 0 where
  pub ascending : AllPairs (λ x y. x < y) xs
  pub only : All (λ x. (a ≤ x) × (x < limit) × (p x ≡ true)) xs
  pub every : (x : ℕ) → a ≤ x → x < limit → p x ≡ true → Contains xs x

not_both : (b : Bool) → b ≡ true → b ≡ false → ⊥
not_both b t f = differ (sym t ∙ f)
  where
    differ : true ≡ false → ⊥
    differ e = cc

module _ (p : ℕ → Bool) where
  -- where a does not pass, they are those from a + 1 on
  skipped : (a limit : ℕ) (xs : List ℕ) → p a ≡ false → ArePassing p a limit xs → ArePassing p (a + 1) limit xs
  skipped a limit xs fails passing = record {
    ascending = passing.ascending;
    only = λ k d l.
        let x : ℕ = get_or xs k d in
        let here : (a ≤ x) × (x < limit) × (p x ≡ true) = passing.only k d l in
        let from : a ≤ x = here.0 in
        let other : x ≢ a = λ e. not_both (p x) here.2 (ap p e ∙ fails) in
        (omega arith, here.1, here.2);
    every = λ x l m h. passing.every x (omega arith) m h;
  }

  -- where a passes, it is the first
  first_is : (a limit x : ℕ) (xs : List ℕ) → a < limit → p a ≡ true → ArePassing p a limit (x ∷ xs) → x ≡ a
  first_is a limit x xs l passes passing =
      let found : Contains (x ∷ xs) a = passing.every a (omega arith) l passes in
      by found.0 found.1 found.2
    where
      by : (k : ℕ) → k < length (x ∷ xs) → get_or (x ∷ xs) k a ≡ a → x ≡ a
      by zero within e = e
      by (suc k) within e =
          let less : x < get_or (x ∷ xs) (suc k) a = passing.ascending 0 (suc k) a (omega arith) within in
          let from : a ≤ x = (passing.only 0 a (omega arith)).0 in
          absurd (omega arith)

  -- and the others are those from a + 1 on
  others : (a limit x : ℕ) (xs : List ℕ) → x ≡ a → ArePassing p a limit (x ∷ xs) → ArePassing p (a + 1) limit xs
  others a limit x xs same passing = record {
    ascending = λ i j d l m. passing.ascending (suc i) (suc j) d (omega arith) (omega arith);
    only = λ k d l.
        let less : x < get_or xs k d = passing.ascending 0 (suc k) d (omega arith) (omega arith) in
        let here : (a ≤ get_or xs k d) × (get_or xs k d < limit) × (p (get_or xs k d) ≡ true) = passing.only (suc k) d (omega arith) in
        (omega arith, here.1, here.2);
    every = λ y l m h. rest y l (passing.every y (omega arith) m h);
  }
    where
      rest : (y : ℕ) → a + 1 ≤ y → Contains (x ∷ xs) y → Contains xs y
      rest y l found = by found.0 found.1 found.2
        where
          by : (k : ℕ) → k < length (x ∷ xs) → get_or (x ∷ xs) k y ≡ y → Contains xs y
          by zero within e = absurd (omega arith)
          by (suc k) within e = (k, omega arith, e)

  pub chosen : (n a limit : ℕ) (xs : List ℕ) → a + n ≡ limit → ArePassing p a limit xs → xs ≡ filter p (range_with_len a n)
  chosen zero a limit [] e passing = refl
  chosen zero a limit (x ∷ xs) e passing =
      let here : (a ≤ x) × (x < limit) × (p x ≡ true) = passing.only 0 a (omega arith) in
      let from : a ≤ x = here.0 in
      let below : x < limit = here.1 in
      absurd (omega arith)
  chosen (suc n) a limit xs e passing =
      elim (p a) as (λ (b : Bool). p a ≡ b → xs ≡ cond b (a ∷ filter p (range_with_len (a + 1) n)) (filter p (range_with_len (a + 1) n))) [
        | true ↦ λ passes. led (λ ys all. chosen n (a + 1) limit ys (omega arith) all) xs passing passes
        | false ↦ λ fails. chosen n (a + 1) limit xs (omega arith) (skipped a limit xs fails passing)
      ] refl
    where
      led : ((ys : List ℕ) → ArePassing p (a + 1) limit ys → ys ≡ filter p (range_with_len (a + 1) n))
          → (ys : List ℕ) → ArePassing p a limit ys → p a ≡ true → ys ≡ a ∷ filter p (range_with_len (a + 1) n)
      led below [] all passes = let none : Contains [] a = all.every a (omega arith) (omega arith) passes in absurd (omega (arith, none.1))
      led below (y ∷ ys) all passes =
          let same : y ≡ a = first_is a limit y ys (omega arith) passes all in
          ap (λ t. t ∷ ys) same ∙ ap (λ (t : List ℕ). a ∷ t) (below ys (others a limit y ys same all))
