-- Division by x + a.
use Rattle.std.proofs.Common.{◌≡◌, ℕ, zero, suc, refl, sym, ◌∙◌, ap, ap₂, arith}
use mathlib.Core.Path.{fun_ext}
use Rattle.algebra.specs.Ring.{Ring}
use Rattle.algebra.specs.Series.{product, constant, linear, value, IsBelow}
use Rattle.algebra.proofs.RingLaws.{ring}
use Rattle.algebra.proofs.Series.{product_first, product_next, product_constant}
use Rattle.algebra.proofs.Nested.{nested, itself, nested_next, nested_more, nested_zero, value_nested, below_tail}

-- what comes out when p, below d + 1, is divided by x + a; the rest is the value at a
unfoldable pub quotient : {F : Type 0} → Ring F → ℕ → (ℕ → F) → F → ℕ → F
quotient R d p a zero = nested R (λ t. t) d (λ k. p (suc k)) a
quotient R d p a (suc k) = quotient R d (λ k. p (suc k)) a k

module _ {F : Type 0} (R : Ring F) where
  infixl 60 ◌⊕◌
  infixl 70 ◌⊗◌
  open R use {nil, unit, plus as ◌⊕◌, times as ◌⊗◌}

  pub linear_first : (a : F) (q : ℕ → F) → product R (linear R a) q 0 ≡ a ⊗ q 0
  linear_first a q = product_first R (linear R a) q

  pub linear_next : (a : F) (q : ℕ → F) (n : ℕ) → product R (linear R a) q (suc n) ≡ q n ⊕ a ⊗ q (suc n)
  linear_next a q n = product_next R (linear R a) q n ∙ ap (λ t. t ⊕ a ⊗ q (suc n)) (product_constant R unit q n) ∙ simp ring

  pub quotient_first : (d : ℕ) (p : ℕ → F) (a : F) → quotient R d p a 0 ≡ nested R (λ t. t) d (λ k. p (suc k)) a
  unfolding quotient
  quotient_first d p a = refl

  pub quotient_next : (d : ℕ) (p : ℕ → F) (a : F) (k : ℕ) → quotient R d p a (suc k) ≡ quotient R d (λ i. p (suc i)) a k
  unfolding quotient
  quotient_next d p a k = refl

  -- where p ends, its quotient ended one before
  quotient_past : (d k : ℕ) (p : ℕ → F) (a : F) → IsBelow R (suc k) p → quotient R d p a k ≡ nil
  quotient_past d zero p a b = quotient_first d p a ∙ nested_zero R R (λ t. t) (itself R) d (λ k. p (suc k)) a (below_tail R 0 p b)
  quotient_past d (suc k) p a b = quotient_next d p a k ∙ quotient_past d k (λ i. p (suc i)) a (below_tail R (suc k) p b)

  pub quotient_below : (d : ℕ) (p : ℕ → F) (a : F) → IsBelow R (suc d) p → IsBelow R d (quotient R d p a)
  quotient_below d p a b k l = quotient_past d k p a (λ i m. b i (omega arith))

  -- each coefficient of p comes from two of the quotient
  pub quotient_step : (d k : ℕ) (p : ℕ → F) (a : F) → IsBelow R (suc d) p → quotient R d p a k ≡ p (suc k) ⊕ a ⊗ quotient R d p a (suc k)
  quotient_step d zero p a b =
      quotient_first d p a
      ∙ sym (nested_more R R (λ t. t) (itself R) d (suc d) (λ k. p (suc k)) a (below_tail R d p b) (omega arith))
      ∙ nested_next R R (λ t. t) (itself R) d (λ k. p (suc k)) a
      ∙ ap (λ t. p 1 ⊕ a ⊗ t) (sym (quotient_next d p a 0 ∙ quotient_first d (λ k. p (suc k)) a))
  quotient_step d (suc k) p a b =
      quotient_next d p a k
      ∙ quotient_step d k (λ i. p (suc i)) a (λ i l. b (suc i) (omega arith))
      ∙ ap (λ t. p (suc (suc k)) ⊕ a ⊗ t) (sym (quotient_next d p a (suc k)))

  -- a polynomial is x + a times the quotient, and the value at a
  pub divided : (d n : ℕ) (p : ℕ → F) (a : F) → IsBelow R (suc d) p
      → p n ≡ product R (linear R a) (quotient R d p a) n ⊕ constant R (value R (suc d) p a) n
  divided d zero p a b =
      let v : value R (suc d) p a ≡ p 0 ⊕ a ⊗ quotient R d p a 0 =
      value_nested R (suc d) p a ∙ nested_next R R (λ t. t) (itself R) d p a ∙ ap (λ t. p 0 ⊕ a ⊗ t) (sym (quotient_first d p a)) in
      let e : p 0 ≡ a ⊗ quotient R d p a 0 ⊕ (p 0 ⊕ a ⊗ quotient R d p a 0) = simp ring in
      e ∙ sym (ap₂ (λ (s t : F). s ⊕ t) (linear_first a (quotient R d p a)) v)
  divided d (suc n) p a b =
      let e : p (suc n) ≡ (p (suc n) ⊕ a ⊗ quotient R d p a (suc n)) ⊕ a ⊗ quotient R d p a (suc n) ⊕ nil = simp ring in
      e
      ∙ sym (ap (λ t. t ⊕ nil) (linear_next a (quotient R d p a) n ∙ ap (λ t. t ⊕ a ⊗ quotient R d p a (suc n)) (quotient_step d n p a b)))

  -- without a rest where a is a root
  pub divides : (d : ℕ) (p : ℕ → F) (a : F) → IsBelow R (suc d) p → value R (suc d) p a ≡ nil → p ≡ product R (linear R a) (quotient R d p a)
  divides d p a b z =
      let empty : (n : ℕ) → constant R nil n ≡ nil = zeros in
      fun_ext (λ n.
      divided d n p a b
      ∙ ap (λ t. product R (linear R a) (quotient R d p a) n ⊕ constant R t n) z
      ∙ ap (λ t. product R (linear R a) (quotient R d p a) n ⊕ t) (empty n)
      ∙ simp ring)
    where
      zeros : (n : ℕ) → constant R nil n ≡ nil
      zeros zero = refl
      zeros (suc n) = refl
