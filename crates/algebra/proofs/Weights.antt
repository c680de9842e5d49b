-- The coefficients of (x + a)^i, and what they say of a polynomial about a.
use Rattle.std.proofs.Common.{◌≡◌, inl, inr, ℕ, zero, suc, ◌-◌, ◌≤◌, true, false, sym, ◌∙◌, ap, ap₂, arith}
use Rattle.std.specs.Prelude.{if◌then◌else◌, bit_and}
use Rattle.std.proofs.lemmas.Bool.{cases_Bool, eqb-true}
use Rattle.std.proofs.lemmas.Nat.{and_le_l}
use Rattle.algebra.specs.Ring.{Ring}
use Rattle.algebra.specs.Sums.{sum_below, power}
use Rattle.algebra.specs.Binomials.{has_bits}
use Rattle.algebra.specs.Bivariate.{weight}
use Rattle.algebra.proofs.RingLaws.{ring, times_nil}
use Rattle.algebra.proofs.Binomials.{differ, pascal, bits_none, zero_bits}
use Rattle.algebra.proofs.Sums.{sum_none, sum_next, sum_same, sum_plus, sum_scaled, power_none, power_next}
use Rattle.algebra.proofs.Shift.{shifted, shifted_none, shifted_first, shifted_next}

-- no number has the bits of a greater one
pub bits_least : (i u : ℕ) → has_bits i u ≡ true → u ≤ i
bits_least i u h =
    let same : bit_and i u ≡ u = eqb-true (bit_and i u) u h in
    let least : bit_and i u ≤ i = and_le_l i u in
    omega arith

module _ {F : Type 0} (R : Ring F) where
  infixl 60 ◌⊕◌
  infixl 70 ◌⊗◌
  open R use {nil, unit, plus as ◌⊕◌, times as ◌⊗◌}

  weight_odd : (a : F) (i u : ℕ) → has_bits i u ≡ true → weight R a i u ≡ power R a (i - u)
  unfolding weight
  weight_odd a i u h = ap (λ b. if b then power R a (i - u) else nil) h

  weight_even : (a : F) (i u : ℕ) → has_bits i u ≡ false → weight R a i u ≡ nil
  unfolding weight
  weight_even a i u h = ap (λ b. if b then power R a (i - u) else nil) h

  pub weight_first : (a : F) (i : ℕ) → weight R a i 0 ≡ power R a i
  weight_first a i = let whole : i - 0 ≡ i = omega arith in weight_odd a i 0 (bits_none i) ∙ ap (λ n. power R a n) whole

  pub weight_none : (a : F) (u : ℕ) → weight R a 0 (suc u) ≡ nil
  weight_none a u = weight_even a 0 (suc u) (zero_bits u)

  -- Pascal's rule
  pub weight_next : (a : F) (i u : ℕ) → weight R a (suc i) (suc u) ≡ weight R a i u ⊕ a ⊗ weight R a i (suc u)
  weight_next a i u =
      let less : suc i - suc u ≡ i - u = omega arith in
      elim (cases_Bool (has_bits i u)) [
        | inl x ↦ elim (cases_Bool (has_bits i (suc u))) [
          | inl y ↦
              let within : suc u ≤ i = bits_least i (suc u) y in
              let more : i - u ≡ suc (i - suc u) = omega arith in
              let here : weight R a i u ≡ a ⊗ power R a (i - suc u) = weight_odd a i u x ∙ ap (λ n. power R a n) more ∙ power_next R a (i - suc u) in
              weight_even a (suc i) (suc u) (pascal i u ∙ ap₂ differ x y)
              ∙ sym (R.plus_self (a ⊗ power R a (i - suc u)))
              ∙ sym (ap₂ (λ (s t : F). s ⊕ a ⊗ t) here (weight_odd a i (suc u) y))
          | inr y ↦
              weight_odd a (suc i) (suc u) (pascal i u ∙ ap₂ differ x y)
              ∙ ap (λ n. power R a n) less
              ∙ sym (ap₂ (λ (s t : F). s ⊕ a ⊗ t) (weight_odd a i u x) (weight_even a i (suc u) y) ∙ simp ring)
        ]
        | inr x ↦ elim (cases_Bool (has_bits i (suc u))) [
          | inl y ↦
              let within : suc u ≤ i = bits_least i (suc u) y in
              let more : suc i - suc u ≡ suc (i - suc u) = omega arith in
              weight_odd a (suc i) (suc u) (pascal i u ∙ ap₂ differ x y)
              ∙ ap (λ n. power R a n) more
              ∙ power_next R a (i - suc u)
              ∙ sym (ap₂ (λ (s t : F). s ⊕ a ⊗ t) (weight_even a i u x) (weight_odd a i (suc u) y) ∙ simp ring)
          | inr y ↦
              weight_even a (suc i) (suc u) (pascal i u ∙ ap₂ differ x y)
              ∙ sym (ap₂ (λ (s t : F). s ⊕ a ⊗ t) (weight_even a i u x) (weight_even a i (suc u) y) ∙ simp ring)
        ]
      ]

  -- the coefficient at u about a
  pub shifted_is_sum : (d : ℕ) (p : ℕ → F) (a : F) (u : ℕ) → shifted R d p a u ≡ sum_below R d (λ i. p i ⊗ weight R a i u)
  shifted_is_sum zero p a u = shifted_none R p a u ∙ sym (sum_none R (λ i. p i ⊗ weight R a i u))
  shifted_is_sum (suc d) p a zero =
      let first : p 0 ⊗ weight R a 0 0 ≡ p 0 = ap (λ t. p 0 ⊗ t) (weight_first a 0 ∙ power_none R a) ∙ simp ring in
      let term : (i : ℕ) → p (suc i) ⊗ weight R a (suc i) 0 ≡ a ⊗ (p (suc i) ⊗ weight R a i 0) = λ i.
      ap (λ t. p (suc i) ⊗ t) (weight_first a (suc i) ∙ power_next R a i ∙ ap (λ t. a ⊗ t) (sym (weight_first a i))) ∙ simp ring in
      shifted_first R d p a
      ∙ ap (λ t. p 0 ⊕ a ⊗ t) (shifted_is_sum d (λ k. p (suc k)) a 0)
      ∙ ap₂ (λ (s t : F). s ⊕ t) (sym first)
      (sym (sum_scaled R d a (λ i. p (suc i) ⊗ weight R a i 0))
      ∙ sum_same R d (λ i. a ⊗ (p (suc i) ⊗ weight R a i 0)) (λ i. p (suc i) ⊗ weight R a (suc i) 0) (λ i _. sym (term i)))
      ∙ sym (sum_next R d (λ i. p i ⊗ weight R a i 0))
  shifted_is_sum (suc d) p a (suc u) =
      let first : p 0 ⊗ weight R a 0 (suc u) ≡ nil = ap (λ t. p 0 ⊗ t) (weight_none a u) ∙ times_nil R (p 0) in
      let term : (i : ℕ) → p (suc i) ⊗ weight R a (suc i) (suc u) ≡ p (suc i) ⊗ weight R a i u ⊕ a ⊗ (p (suc i) ⊗ weight R a i (suc u)) = λ i.
      ap (λ t. p (suc i) ⊗ t) (weight_next a i u) ∙ simp ring in
      shifted_next R d p a u
      ∙ ap₂ (λ (s t : F). s ⊕ a ⊗ t) (shifted_is_sum d (λ k. p (suc k)) a u) (shifted_is_sum d (λ k. p (suc k)) a (suc u))
      ∙ ap (λ t. sum_below R d (λ i. p (suc i) ⊗ weight R a i u) ⊕ t) (sym (sum_scaled R d a (λ i. p (suc i) ⊗ weight R a i (suc u))))
      ∙ sym (sum_plus R d (λ i. p (suc i) ⊗ weight R a i u) (λ i. a ⊗ (p (suc i) ⊗ weight R a i (suc u))))
      ∙ sum_same R d (λ i. p (suc i) ⊗ weight R a i u ⊕ a ⊗ (p (suc i) ⊗ weight R a i (suc u))) (λ i. p (suc i) ⊗ weight R a (suc i) (suc u)) (λ i _. sym (term i))
      ∙ sym (R.plus_nil (sum_below R d (λ i. p (suc i) ⊗ weight R a (suc i) (suc u))))
      ∙ ap (λ t. t ⊕ sum_below R d (λ i. p (suc i) ⊗ weight R a (suc i) (suc u))) (sym first)
      ∙ sym (sum_next R d (λ i. p i ⊗ weight R a i (suc u)))
