-- Sums over a range.
use Rattle.std.proofs.Common.{◌≡◌, ◌≢◌, ℕ, zero, suc, ◌<◌, ◌≤◌, refl, sym, ◌∙◌, ap, ap₂, arith}
use Rattle.algebra.specs.Ring.{Ring}
use Rattle.algebra.specs.Sums.{sum_below, power}
use Rattle.algebra.proofs.RingLaws.{ring, plus_nil}

module _ {F : Type 0} (R : Ring F) where
  infixl 60 ◌⊕◌
  infixl 70 ◌⊗◌
  open R use {nil, unit, plus as ◌⊕◌, times as ◌⊗◌}

  pub sum_none : (f : ℕ → F) → sum_below R 0 f ≡ nil
  unfolding sum_below
  sum_none f = refl

  pub sum_next : (n : ℕ) (f : ℕ → F) → sum_below R (suc n) f ≡ f 0 ⊕ sum_below R n (λ i. f (suc i))
  unfolding sum_below
  sum_next n f = refl

  pub power_none : (x : F) → power R x 0 ≡ unit
  unfolding power
  power_none x = refl

  pub power_next : (x : F) (n : ℕ) → power R x (suc n) ≡ x ⊗ power R x n
  unfolding power
  power_next x n = refl

  -- a sum depends on the terms alone
  pub sum_same : (n : ℕ) (f g : ℕ → F) → ((i : ℕ) → i < n → f i ≡ g i) → sum_below R n f ≡ sum_below R n g
  sum_same zero f g h = sum_none f ∙ sym (sum_none g)
  sum_same (suc n) f g h =
      sum_next n f
      ∙ ap₂ (λ (s t : F). s ⊕ t) (h 0 (omega arith)) (sum_same n (λ i. f (suc i)) (λ i. g (suc i)) (λ i l. h (suc i) (omega arith)))
      ∙ sym (sum_next n g)

  pub sum_nil : (n : ℕ) → sum_below R n (λ i. nil) ≡ nil
  sum_nil zero = sum_none (λ i. nil)
  sum_nil (suc n) = simp (sum_next, sum_nil n, ring)

  pub sum_plus : (n : ℕ) (f g : ℕ → F) → sum_below R n (λ i. f i ⊕ g i) ≡ sum_below R n f ⊕ sum_below R n g
  sum_plus zero f g = simp (sum_none, ring)
  sum_plus (suc n) f g = simp (sum_next, sum_plus n (λ i. f (suc i)) (λ i. g (suc i)), ring)

  pub sum_scaled : (n : ℕ) (x : F) (f : ℕ → F) → sum_below R n (λ i. x ⊗ f i) ≡ x ⊗ sum_below R n f
  sum_scaled zero x f = simp (sum_none, ring)
  sum_scaled (suc n) x f = simp (sum_next, sum_scaled n x (λ i. f (suc i)), ring)

  -- the last term
  pub sum_last : (n : ℕ) (f : ℕ → F) → sum_below R (suc n) f ≡ sum_below R n f ⊕ f n
  sum_last zero f = sum_next 0 f ∙ R.plus_comm (f 0) (sum_below R 0 (λ i. f (suc i))) ∙ ap (λ t. t ⊕ f 0) (sum_none (λ i. f (suc i)) ∙ sym (sum_none f))
  sum_last (suc n) f =
      sum_next (suc n) f
      ∙ ap (λ t. f 0 ⊕ t) (sum_last n (λ i. f (suc i)))
      ∙ sym (R.plus_assoc (f 0) (sum_below R n (λ i. f (suc i))) (f (suc n)))
      ∙ ap (λ t. t ⊕ f (suc n)) (sym (sum_next n f))

  -- two sums change places
  pub sum_exchange : (m n : ℕ) (f : ℕ → ℕ → F) → sum_below R m (λ i. sum_below R n (λ j. f i j)) ≡ sum_below R n (λ j. sum_below R m (λ i. f i j))
  sum_exchange zero n f =
      sum_none (λ i. sum_below R n (λ j. f i j))
      ∙ sym (sum_nil n)
      ∙ sum_same n (λ j. nil) (λ j. sum_below R 0 (λ i. f i j)) (λ j l. sym (sum_none (λ i. f i j)))
  sum_exchange (suc m) n f =
      sum_next m (λ i. sum_below R n (λ j. f i j))
      ∙ ap (λ t. sum_below R n (λ j. f 0 j) ⊕ t) (sum_exchange m n (λ i j. f (suc i) j))
      ∙ sym (sum_plus n (λ j. f 0 j) (λ j. sum_below R m (λ i. f (suc i) j)))
      ∙ sum_same n (λ j. f 0 j ⊕ sum_below R m (λ i. f (suc i) j)) (λ j. sum_below R (suc m) (λ i. f i j)) (λ j l. sym (sum_next m (λ i. f i j)))

  -- no term is other than zero
  pub sum_zero : (n : ℕ) (f : ℕ → F) → ((i : ℕ) → i < n → f i ≡ nil) → sum_below R n f ≡ nil
  sum_zero n f h = sum_same n f (λ i. nil) h ∙ sum_nil n

  -- one term is other than zero
  pub sum_only : (n k : ℕ) (f : ℕ → F) → k < n → ((i : ℕ) → i < n → i ≢ k → f i ≡ nil) → sum_below R n f ≡ f k
  sum_only zero k f l h = absurd (omega arith)
  sum_only (suc n) zero f l h =
      sum_next n f
      ∙ ap (λ t. f 0 ⊕ t) (sum_zero n (λ i. f (suc i)) (λ i m. h (suc i) (omega arith) (λ e. omega arith)))
      ∙ plus_nil R (f 0)
  sum_only (suc n) (suc k) f l h =
      sum_next n f
      ∙ ap₂ (λ (s t : F). s ⊕ t) (h 0 (omega arith) (λ e. omega arith))
      (sum_only n k (λ i. f (suc i)) (omega arith) (λ i m o. h (suc i) (omega arith) (λ e. o (omega arith))))
      ∙ R.plus_nil (f (suc k))

  -- terms that are zero count for nothing
  pub sum_more : (m n : ℕ) (f : ℕ → F) → m ≤ n → ((i : ℕ) → m ≤ i → f i ≡ nil) → sum_below R m f ≡ sum_below R n f
  sum_more zero n f l h = sum_none f ∙ sym (sum_zero n f (λ i k. h i (omega arith)))
  sum_more (suc m) zero f l h = absurd (omega arith)
  sum_more (suc m) (suc n) f l h =
      sum_next m f
      ∙ ap (λ t. f 0 ⊕ t) (sum_more m n (λ i. f (suc i)) (omega arith) (λ i k. h (suc i) (omega arith)))
      ∙ sym (sum_next n f)
