-- What a polynomial in two variables gives at y = f(x), by nested products in the ring of series.
use Rattle.std.proofs.Common.{◌≡◌, inl, inr, ℕ, zero, suc, ◌-◌, ◌<◌, ◌≤◌, sym, ◌∙◌, ap, ap₂, arith}
use Rattle.std.specs.Prelude.{if◌then◌else◌}
use Rattle.std.proofs.lemmas.Bool.{cases_lt, lt-ltb, le-ltb}
use Rattle.algebra.specs.Ring.{Ring}
use Rattle.algebra.specs.Sums.{sum_below, power}
use Rattle.algebra.specs.Series.{product, IsBelow}
use Rattle.algebra.specs.Bivariate.{Bivariate, IsWithin, coefficient, power_of, raised, substituted}
use Rattle.algebra.proofs.RingLaws.{ring, times_nil}
use Rattle.algebra.proofs.Sums.{sum_none, sum_next, sum_same, sum_zero, sum_exchange, power_none, power_next}
use Rattle.algebra.proofs.Series.{product_first, product_next, product_zero, series}
use Rattle.algebra.proofs.Nested.{nested, itself, nested_is_sum, below_tail}
use Rattle.algebra.proofs.Taylor.{sum_series}
use Rattle.algebra.proofs.Entries.{terms_sum}
use Rattle.algebra.proofs.Derivatives.{column, columns_below}

module _ {F : Type 0} (R : Ring F) where
  infixl 60 ◌⊕◌
  infixl 70 ◌⊗◌
  open R use {nil, unit, plus as ◌⊕◌, times as ◌⊗◌}

  pub power_of_is : (f : ℕ → F) (j : ℕ) → power (series R) f j ≡ power_of R f j
  unfolding series power_of
  power_of_is f zero = power_none (series R) f
  power_of_is f (suc j) = power_next (series R) f j ∙ ap (λ (t : ℕ → F). product R f t) (power_of_is f j)

  pub raised_low : (i : ℕ) (p : ℕ → F) (k : ℕ) → k < i → raised R i p k ≡ nil
  raised_low i p k l = ap (λ b. if b then nil else p (k - i)) (lt-ltb k i l)

  pub raised_high : (i : ℕ) (p : ℕ → F) (k : ℕ) → i ≤ k → raised R i p k ≡ p (k - i)
  raised_high i p k l = ap (λ b. if b then nil else p (k - i)) (le-ltb k i l)

  pub raised_none : (p : ℕ → F) (k : ℕ) → raised R 0 p k ≡ p k
  raised_none p k = let same : k - 0 ≡ k = omega arith in raised_high 0 p k (omega arith) ∙ ap p same

  pub raised_first : (i : ℕ) (p : ℕ → F) → raised R (suc i) p 0 ≡ nil
  raised_first i p = raised_low (suc i) p 0 (omega arith)

  pub raised_next : (i : ℕ) (p : ℕ → F) (k : ℕ) → raised R (suc i) p (suc k) ≡ raised R i p k
  raised_next i p k =
      let same : suc k - suc i ≡ k - i = omega arith in
      elim (cases_lt k i) [
        | inl l ↦ raised_low (suc i) p (suc k) (omega arith) ∙ sym (raised_low i p k l)
        | inr l ↦ raised_high (suc i) p (suc k) (omega arith) ∙ ap p same ∙ sym (raised_high i p k l)
      ]

  -- a product is the sum of the second factor's multiples by the terms of the first
  pub product_is_sum : (m : ℕ) (p g : ℕ → F) (k : ℕ) → IsBelow R m p → product R p g k ≡ sum_below R m (λ i. p i ⊗ raised R i g k)
  product_is_sum zero p g k b = product_zero R p g b k ∙ sym (sum_none R (λ i. p i ⊗ raised R i g k))
  product_is_sum (suc m) p g zero b =
      let rest : sum_below R m (λ i. p (suc i) ⊗ raised R (suc i) g 0) ≡ nil =
      sum_zero R m (λ i. p (suc i) ⊗ raised R (suc i) g 0) (λ i _. ap (λ t. p (suc i) ⊗ t) (raised_first i g) ∙ times_nil R (p (suc i))) in
      let first : p 0 ⊗ g 0 ≡ p 0 ⊗ g 0 ⊕ nil = simp ring in
      product_first R p g
      ∙ first
      ∙ sym (ap₂ (λ (s t : F). s ⊕ t) (ap (λ t. p 0 ⊗ t) (raised_none g 0)) rest)
      ∙ sym (sum_next R m (λ i. p i ⊗ raised R i g 0))
  product_is_sum (suc m) p g (suc k) b =
      product_next R p g k
      ∙ R.plus_comm (product R (λ i. p (suc i)) g k) (p 0 ⊗ g (suc k))
      ∙ ap₂ (λ (s t : F). s ⊕ t) (ap (λ t. p 0 ⊗ t) (sym (raised_none g (suc k))))
      (product_is_sum m (λ i. p (suc i)) g k (below_tail R m p b)
      ∙ sum_same R m (λ i. p (suc i) ⊗ raised R i g k) (λ i. p (suc i) ⊗ raised R (suc i) g (suc k)) (λ i _. ap (λ t. p (suc i) ⊗ t) (sym (raised_next i g k))))
      ∙ sym (sum_next R m (λ i. p i ⊗ raised R i g (suc k)))

  -- Q(x, f(x)) as a value
  pub substituted_is : (m d : ℕ) (q : Bivariate F) (f : ℕ → F) (k : ℕ) → IsWithin m d q
      → substituted R q f k ≡ nested (series R) (λ t. t) d (column R q) f k
  unfolding series
  substituted_is m d q f k w =
      let each : (j : ℕ) → sum_below R m (λ i. coefficient R q i j ⊗ raised R i (power_of R f j) k) ≡ product R (column R q j) (power (series R) f j) k = λ j.
      sym (product_is_sum m (column R q j) (power_of R f j) k (columns_below R m d q w j))
      ∙ ap (λ (t : ℕ → F). product R (column R q j) t k) (sym (power_of_is f j)) in
      terms_sum R (λ i j c. c ⊗ raised R i (power_of R f j) k) (λ i j x y. simp ring) m d q w
      ∙ sum_exchange R m d (λ i j. coefficient R q i j ⊗ raised R i (power_of R f j) k)
      ∙ sum_same R d (λ j. sum_below R m (λ i. coefficient R q i j ⊗ raised R i (power_of R f j) k)) (λ j. product R (column R q j) (power (series R) f j) k) (λ j _. each j)
      ∙ sym (sum_series R d (λ j. product R (column R q j) (power (series R) f j)) k)
      ∙ sym (ap (λ (t : ℕ → F). t k) (nested_is_sum (series R) (series R) (λ t. t) (itself (series R)) d (column R q) f))
