-- Nested products from a place on, as a loop makes them that goes from the last coefficient down.
use Rattle.std.proofs.Common.{◌≡◌, inl, inr, ℕ, zero, suc, ◌+◌, ◌-◌, ◌<◌, ◌≤◌, true, false, refl, sym, ◌∙◌, ap, ap₂, arith}
use Rattle.std.specs.Prelude.{Bool, if◌then◌else◌}
use Rattle.std.proofs.lemmas.Bool.{cases_lt}
use mathlib.Core.Path.{fun_ext}
use Rattle.algebra.specs.Ring.{Ring}
use Rattle.algebra.specs.Sums.{sum_below, power}
use Rattle.algebra.specs.Series.{value, IsBelow}
use Rattle.algebra.specs.Binomials.{has_bits}
use Rattle.algebra.specs.Bivariate.{weight}
use Rattle.algebra.proofs.RingLaws.{ring, times_nil}
use Rattle.algebra.proofs.Sums.{sum_none, sum_next, sum_same}
use Rattle.algebra.proofs.Nested.{nested, itself, nested_none, nested_next, nested_is_sum, value_nested}
use Rattle.algebra.proofs.Weights.{bits_least}

module _ {F : Type 0} (R : Ring F) (n : ℕ) (p : ℕ → F) (a : F) where
  infixl 60 ◌⊕◌
  infixl 70 ◌⊗◌
  open R use {nil, unit, plus as ◌⊕◌, times as ◌⊗◌}

  -- the value at a of the polynomial whose coefficients are those of p from place i on, up to n
  pub nested_from : ℕ → F
  nested_from i = nested R (λ t. t) (n - i) (λ k. p (i + k)) a

  -- past the end
  pub nested_from-end : (i : ℕ) → n ≤ i → nested_from i ≡ nil
  unfolding nested_from
  nested_from-end i l =
      let none : n - i ≡ 0 = omega arith in
      ap (λ t. nested R (λ t. t) t (λ k. p (i + k)) a) none ∙ nested_none R R (λ t. t) (itself R) (λ k. p (i + k)) a

  -- one place further to the front
  pub nested_from-step : (i : ℕ) → i < n → nested_from i ≡ nested_from (suc i) ⊗ a ⊕ p i
  unfolding nested_from
  nested_from-step i l =
      let more : n - i ≡ suc (n - suc i) = omega arith in
      let here : i + 0 ≡ i = omega arith in
      let next : (k : ℕ) → i + suc k ≡ suc i + k = λ k. omega arith in
      ap (λ t. nested R (λ t. t) t (λ k. p (i + k)) a) more
      ∙ nested_next R R (λ t. t) (itself R) (n - suc i) (λ k. p (i + k)) a
      ∙ ap₂ (λ (s t : F). s ⊕ t)
      (ap p here)
      (R.times_comm a (nested R (λ t. t) (n - suc i) (λ k. p (i + suc k)) a)
      ∙ ap (λ (q : ℕ → F). nested R (λ t. t) (n - suc i) q a ⊗ a) (fun_ext (λ k. ap p (next k))))
      ∙ R.plus_comm (p i) (nested_from (suc i) ⊗ a)

  -- past the end too, where p ends there
  pub nested_from-each : IsBelow R n p → (i : ℕ) → nested_from i ≡ nested_from (suc i) ⊗ a ⊕ p i
  nested_from-each b i = elim (cases_lt i n) [
    | inl l ↦ nested_from-step i l
    | inr l ↦
        let none : nil ⊗ a ⊕ nil ≡ nil = simp ring in
        nested_from-end i l ∙ sym (ap₂ (λ (s t : F). s ⊗ a ⊕ t) (nested_from-end (suc i) (omega arith)) (b i l) ∙ none)
  ]

  -- a loop that goes down to u stops there, or stays at the end where u is past it
  pub nested_from-stop : (i u : ℕ) → i ≤ u → (i < n → u ≤ i) → nested_from i ≡ nested_from u
  nested_from-stop i u l h = elim (cases_lt i n) [
    | inl m ↦ let least : u ≤ i = h m in let same : i ≡ u = omega arith in ap nested_from same
    | inr m ↦ nested_from-end i m ∙ sym (nested_from-end u (omega arith))
  ]

  -- from the front on it is the whole
  pub nested_from-front : nested_from 0 ≡ nested R (λ t. t) n p a
  unfolding nested_from
  nested_from-front =
      let count : n - 0 ≡ n = omega arith in
      let place : (k : ℕ) → 0 + k ≡ k = λ k. omega arith in
      ap₂ (λ (t : ℕ) (q : ℕ → F). nested R (λ t. t) t q a) count (fun_ext (λ k. ap p (place k)))

  -- which is the value
  pub nested_from-all : nested_from 0 ≡ value R n p a
  nested_from-all = nested_from-front ∙ sym (value_nested R n p a)

  nested_from-sum : (i : ℕ) → nested_from i ≡ sum_below R (n - i) (λ k. p (i + k) ⊗ power R a k)
  unfolding nested_from
  nested_from-sum i = nested_is_sum R R (λ t. t) (itself R) (n - i) (λ k. p (i + k)) a

module _ {F : Type 0} (R : Ring F) where
  infixl 60 ◌⊕◌
  infixl 70 ◌⊗◌
  open R use {nil, unit, plus as ◌⊕◌, times as ◌⊗◌}

  -- terms that are zero at the front count for nothing
  sum_from : (u n : ℕ) (f : ℕ → F) → ((i : ℕ) → i < u → f i ≡ nil) → sum_below R n f ≡ sum_below R (n - u) (λ k. f (u + k))
  sum_from zero n f h =
      let count : n ≡ n - 0 = omega arith in
      let place : (k : ℕ) → k ≡ 0 + k = λ k. omega arith in
      ap₂ (λ (t : ℕ) (g : ℕ → F). sum_below R t g) count (fun_ext (λ k. ap f (place k)))
  sum_from (suc u) zero f h =
      let count : 0 - suc u ≡ 0 = omega arith in
      sum_none R f ∙ sym (ap (λ t. sum_below R t (λ k. f (suc u + k))) count ∙ sum_none R (λ k. f (suc u + k)))
  sum_from (suc u) (suc n) f h =
      let count : n - u ≡ suc n - suc u = omega arith in
      let place : (k : ℕ) → suc (u + k) ≡ suc u + k = λ k. omega arith in
      sum_next R n f
      ∙ ap (λ t. t ⊕ sum_below R n (λ i. f (suc i))) (h 0 (omega arith))
      ∙ R.plus_nil (sum_below R n (λ i. f (suc i)))
      ∙ sum_from u n (λ i. f (suc i)) (λ i l. h (suc i) (omega arith))
      ∙ ap₂ (λ (t : ℕ) (g : ℕ → F). sum_below R t g) count (fun_ext (λ k. ap f (place k)))

  -- the terms whose binomial is even are zero
  pub weight_low : (a : F) (i u : ℕ) → i < u → weight R a i u ≡ nil
  unfolding weight
  weight_low a i u l =
      elim (has_bits i u) as (λ (b : Bool). has_bits i u ≡ b → (if b then power R a (i - u) else nil) ≡ nil) [
        | true ↦ λ e. let least : u ≤ i = bits_least i u e in absurd (omega arith)
        | false ↦ λ e. refl
      ] refl

  weight_from : (a x : F) (u k : ℕ) → x ⊗ weight R a (u + k) u ≡ (if has_bits (u + k) u then x else nil) ⊗ power R a k
  unfolding weight
  weight_from a x u k =
      let less : u + k - u ≡ k = omega arith in
      elim (has_bits (u + k) u) as (λ (b : Bool). x ⊗ (if b then power R a (u + k - u) else nil) ≡ (if b then x else nil) ⊗ power R a k) [
        | true ↦ ap (λ t. x ⊗ power R a t) less
        | false ↦ simp ring
      ]

  -- the derivative of order u at a, by nested products of the coefficients whose binomial over u is odd
  pub nested_from-weights : (n u : ℕ) (p : ℕ → F) (a : F)
      → nested_from R n (λ i. if has_bits i u then p i else nil) a u ≡ sum_below R n (λ i. p i ⊗ weight R a i u)
  nested_from-weights n u p a =
      nested_from-sum R n (λ i. if has_bits i u then p i else nil) a u
      ∙ sym (sum_same R (n - u) (λ k. p (u + k) ⊗ weight R a (u + k) u) (λ k. (if has_bits (u + k) u then p (u + k) else nil) ⊗ power R a k) (λ k _. weight_from a (p (u + k)) u k))
      ∙ sym (sum_from u n (λ i. p i ⊗ weight R a i u) (λ i l. ap (λ t. p i ⊗ t) (weight_low a i u l) ∙ times_nil R (p i)))
