-- Hasse derivatives of sums and of products with x + c.
use Rattle.std.proofs.Common.{◌≡◌, ℕ, suc, ◌+◌, ◌<◌, ◌≤◌, refl, ◌∙◌, sym, ap, ap₂, arith}
use Rattle.algebra.specs.Bivariate.{weight}
use Rattle.algebra.specs.Ring.{Ring}
use Rattle.algebra.specs.Series.{IsBelow, linear, product}
use Rattle.algebra.specs.Sums.{sum_below}
use Rattle.algebra.proofs.Division.{linear_first, linear_next}
use Rattle.algebra.proofs.RingLaws.{nil_times, ring}
use Rattle.algebra.proofs.Series.{product_same}
use Rattle.algebra.proofs.Shift.{shifted, shifted_factor}
use Rattle.algebra.proofs.Sums.{sum_more, sum_plus, sum_same, sum_scaled, sum_zero}
use Rattle.algebra.proofs.Weights.{shifted_is_sum}
use Rattle.koetter_terms.specs.Derivatives.{derivative, derivative_at, plus_multiple, times_linear}

module _ {F : Type 0} (R : Ring F) where
  infixl 60 ◌⊕◌
  infixl 70 ◌⊗◌
  open R use {nil, unit, plus as ◌⊕◌, times as ◌⊗◌}

  pub derivative_is : (m : ℕ) (p : ℕ → F) (a : F) (u : ℕ) → derivative R m p a u ≡ sum_below R m (λ i. p i ⊗ weight R a i u)
  unfolding derivative
  derivative_is m p a u = refl

  about : (m : ℕ) (p : ℕ → F) (a : F) (u : ℕ) → derivative R m p a u ≡ shifted R m p a u
  about m p a u = derivative_is m p a u ∙ sym (shifted_is_sum R m p a u)

  pub derivative_same : (m : ℕ) (p q : ℕ → F) (a : F) (u : ℕ) → ((i : ℕ) → i < m → p i ≡ q i) → derivative R m p a u ≡ derivative R m q a u
  derivative_same m p q a u same =
      derivative_is m p a u
      ∙ sum_same R m (λ i. p i ⊗ weight R a i u) (λ i. q i ⊗ weight R a i u) (λ i l. ap (λ t. t ⊗ weight R a i u) (same i l))
      ∙ sym (derivative_is m q a u)

  pub derivative_sum : (m : ℕ) (x : F) (p q : ℕ → F) (a : F) (u : ℕ) → derivative R m (λ i. p i ⊕ x ⊗ q i) a u ≡ derivative R m p a u ⊕ x ⊗ derivative R m q a u
  derivative_sum m x p q a u =
      let term : (i : ℕ) → (p i ⊕ x ⊗ q i) ⊗ weight R a i u ≡ p i ⊗ weight R a i u ⊕ x ⊗ (q i ⊗ weight R a i u) = λ i. simp ring in
      derivative_is m (λ i. p i ⊕ x ⊗ q i) a u
      ∙ sum_same R m (λ i. (p i ⊕ x ⊗ q i) ⊗ weight R a i u) (λ i. p i ⊗ weight R a i u ⊕ x ⊗ (q i ⊗ weight R a i u)) (λ i l. term i)
      ∙ sum_plus R m (λ i. p i ⊗ weight R a i u) (λ i. x ⊗ (q i ⊗ weight R a i u))
      ∙ ap₂ (λ (s t : F). s ⊕ t) (sym (derivative_is m p a u)) (sum_scaled R m x (λ i. q i ⊗ weight R a i u) ∙ ap (λ t. x ⊗ t) (sym (derivative_is m q a u)))

  -- coefficients from the bound on that are zero count for nothing
  pub derivative_more : (m n : ℕ) (p : ℕ → F) (a : F) (u : ℕ) → m ≤ n → IsBelow R m p → derivative R m p a u ≡ derivative R n p a u
  derivative_more m n p a u l below =
      derivative_is m p a u
      ∙ sum_more R m n (λ i. p i ⊗ weight R a i u) l (λ i k. ap (λ t. t ⊗ weight R a i u) (below i k) ∙ nil_times R (weight R a i u))
      ∙ sym (derivative_is n p a u)

  pub derivative_nil : (m : ℕ) (p : ℕ → F) (a : F) (u : ℕ) → ((i : ℕ) → i < m → p i ≡ nil) → derivative R m p a u ≡ nil
  derivative_nil m p a u none = derivative_is m p a u ∙ sum_zero R m (λ i. p i ⊗ weight R a i u) (λ i l. ap (λ t. t ⊗ weight R a i u) (none i l) ∙ nil_times R (weight R a i u))

  -- x + c at a is c + a and a first derivative of one
  derivative_factor : (m : ℕ) (c : F) (p : ℕ → F) (a : F) (u : ℕ) → IsBelow R m p → IsBelow R m (product R (linear R c) p)
      → derivative R m (product R (linear R c) p) a u ≡ product R (linear R (c ⊕ a)) (derivative R m p a) u
  derivative_factor m c p a u below room =
      derivative_more m (2 + m) (product R (linear R c) p) a u (omega arith) room
      ∙ about (2 + m) (product R (linear R c) p) a u
      ∙ ap (λ (t : ℕ → F). t u) (shifted_factor R m p c a below)
      ∙ product_same R (linear R (c ⊕ a)) (shifted R m p a) (linear R (c ⊕ a)) (derivative R m p a) u (λ k. refl) (λ k. sym (about m p a k))

  pub at_same : (m n : ℕ) (p q : ℕ → ℕ → F) (a b : F) (u v : ℕ) → ((i j : ℕ) → p i j ≡ q i j) → derivative_at R m n p a b u v ≡ derivative_at R m n q a b u v
  at_same m n p q a b u v same =
      derivative_same n (λ j. derivative R m (λ i. p i j) a u) (λ j. derivative R m (λ i. q i j) a u) b v
      (λ j l. derivative_same m (λ i. p i j) (λ i. q i j) a u (λ i k. same i j))

  pub at_sum : (m n : ℕ) (x : F) (q p : ℕ → ℕ → F) (a b : F) (u v : ℕ)
      → derivative_at R m n (plus_multiple R q x p) a b u v ≡ derivative_at R m n q a b u v ⊕ x ⊗ derivative_at R m n p a b u v
  at_sum m n x q p a b u v =
      derivative_same n (λ j. derivative R m (λ i. q i j ⊕ x ⊗ p i j) a u) (λ j. derivative R m (λ i. q i j) a u ⊕ x ⊗ derivative R m (λ i. p i j) a u) b v
      (λ j l. derivative_sum m x (λ i. q i j) (λ i. p i j) a u)
      ∙ derivative_sum n x (λ j. derivative R m (λ i. q i j) a u) (λ j. derivative R m (λ i. p i j) a u) b v

  derivative_scaled : (m : ℕ) (x : F) (p : ℕ → F) (a : F) (u : ℕ) → derivative R m (λ i. x ⊗ p i) a u ≡ x ⊗ derivative R m p a u
  derivative_scaled m x p a u =
      let term : (i : ℕ) → x ⊗ p i ⊗ weight R a i u ≡ x ⊗ (p i ⊗ weight R a i u) = λ i. simp ring in
      derivative_is m (λ i. x ⊗ p i) a u
      ∙ sum_same R m (λ i. x ⊗ p i ⊗ weight R a i u) (λ i. x ⊗ (p i ⊗ weight R a i u)) (λ i l. term i)
      ∙ sum_scaled R m x (λ i. p i ⊗ weight R a i u)
      ∙ ap (λ t. x ⊗ t) (sym (derivative_is m p a u))

  -- (x + c) q, where both have no power of x from m on
  module _ (m n : ℕ) (c : F) (q : ℕ → ℕ → F) (below : (j : ℕ) → IsBelow R m (λ i. q i j)) (room : (j : ℕ) → IsBelow R m (λ i. times_linear R c q i j)) (a b : F) where
    pub at_first : (v : ℕ) → derivative_at R m n (times_linear R c q) a b 0 v ≡ (c ⊕ a) ⊗ derivative_at R m n q a b 0 v
    at_first v =
        derivative_same n (λ j. derivative R m (λ i. times_linear R c q i j) a 0) (λ j. (c ⊕ a) ⊗ derivative R m (λ i. q i j) a 0) b v
        (λ j l. derivative_factor m c (λ i. q i j) a 0 (below j) (room j) ∙ linear_first R (c ⊕ a) (derivative R m (λ i. q i j) a))
        ∙ derivative_scaled n (c ⊕ a) (λ j. derivative R m (λ i. q i j) a 0) b v

    pub at_next : (u v : ℕ) → derivative_at R m n (times_linear R c q) a b (suc u) v ≡ derivative_at R m n q a b u v ⊕ (c ⊕ a) ⊗ derivative_at R m n q a b (suc u) v
    at_next u v =
        derivative_same n (λ j. derivative R m (λ i. times_linear R c q i j) a (suc u)) (λ j. derivative R m (λ i. q i j) a u ⊕ (c ⊕ a) ⊗ derivative R m (λ i. q i j) a (suc u)) b v
        (λ j l. derivative_factor m c (λ i. q i j) a (suc u) (below j) (room j) ∙ linear_next R (c ⊕ a) (derivative R m (λ i. q i j) a) u)
        ∙ derivative_sum n (c ⊕ a) (λ j. derivative R m (λ i. q i j) a u) (λ j. derivative R m (λ i. q i j) a (suc u)) b v
