-- A polynomial from its coefficients about a point.
use Rattle.std.proofs.Common.{◌≡◌, ℕ, zero, suc, ◌+◌, refl, sym, ◌∙◌, ap, ap₂, arith}
use mathlib.Core.Path.{fun_ext}
use Rattle.algebra.specs.Ring.{Ring}
use Rattle.algebra.specs.Sums.{sum_below, power}
use Rattle.algebra.specs.Series.{product, constant, linear, linear_power, IsBelow}
use Rattle.algebra.proofs.RingLaws.{ring, plus_nil}
use Rattle.algebra.proofs.Sums.{sum_none, sum_next, sum_same, power_none, power_next}
use Rattle.algebra.proofs.Series.{product_constant, series}
use Rattle.algebra.proofs.Nested.{nested, IsHom, nested_none, nested_next, nested_sum, nested_zero, nested_more, nested_product, nested_is_sum, below_tail}
use Rattle.algebra.proofs.Division.{linear_first, linear_next}
use Rattle.algebra.proofs.Shift.{shifted, shifted_below, linear_below, constants}
use Rattle.algebra.proofs.Roots.{power_first, power_more}

module _ {F : Type 0} (R : Ring F) where
  infixl 60 ◌⊕◌
  infixl 70 ◌⊗◌
  open R use {nil, unit, plus as ◌⊕◌, times as ◌⊗◌}

  linear_product_below : (d : ℕ) (a : F) (q : ℕ → F) → IsBelow R d q → IsBelow R (suc d) (product R (linear R a) q)
  linear_product_below d a q b zero l = absurd (omega arith)
  linear_product_below d a q b (suc k) l =
      let here : q k ≡ nil = b k (omega arith) in
      let next : q (suc k) ≡ nil = b (suc k) (omega arith) in
      linear_next R a q k ∙ simp (here, next, ring)

  shifted_whole : (d : ℕ) (p : ℕ → F) (a : F)
      → shifted R (suc d) p a ≡ λ k. constant R (p 0) k ⊕ product R (linear R a) (shifted R d (λ i. p (suc i)) a) k
  unfolding series
  shifted_whole d p a = nested_next R (series R) (constant R) (constants R) d p (linear R a)

module _ {F G : Type 0} (R : Ring F) (S : Ring G) (into : F → G) (h : IsHom R S into) where
  infixl 60 ◌⊕◌
  infixl 70 ◌⊗◌
  open S use {nil, unit, plus as ◌⊕◌, times as ◌⊗◌}

  -- the value of a constant
  pub nested_constant : (d : ℕ) (x : F) (c : G) → nested S into (suc d) (constant R x) c ≡ into x
  nested_constant d x c =
      nested_next R S into h d (constant R x) c
      ∙ ap (λ t. into x ⊕ c ⊗ t) (nested_zero R S into h d (λ k. constant R x (suc k)) c (λ k l. refl))
      ∙ simp ring

  nested_linear : (a : F) (c : G) → nested S into 2 (linear R a) c ≡ into a ⊕ c
  nested_linear a c =
      nested_next R S into h 1 (linear R a) c
      ∙ ap (λ t. into a ⊕ c ⊗ t) (nested_constant 0 R.unit c ∙ h.keeps_unit)
      ∙ simp ring

  -- a polynomial about a has at c + a the value that it has at c
  pub nested_about : (d : ℕ) (p : ℕ → F) (a : F) (c : G) → nested S into d (shifted R d p a) (c ⊕ into a) ≡ nested S into d p c
  nested_about zero p a c = nested_none R S into h (shifted R 0 p a) (c ⊕ into a) ∙ sym (nested_none R S into h p c)
  nested_about (suc d) p a c =
      let q : ℕ → F = shifted R d (λ i. p (suc i)) a in
      let z : G = c ⊕ into a in
      let factor : into a ⊕ (c ⊕ into a) ≡ c = simp ring in
      let rest : nested S into (suc d) (product R (linear R a) q) z ≡ c ⊗ nested S into d (λ i. p (suc i)) c =
      sym (nested_more R S into h (suc d) (2 + d) (product R (linear R a) q) z (linear_product_below R d a q (shifted_below R d (λ i. p (suc i)) a)) (omega arith))
      ∙ nested_product R S into h 2 d (linear R a) q z (linear_below R a) (shifted_below R d (λ i. p (suc i)) a)
      ∙ ap₂ (λ (s t : G). s ⊗ t) (nested_linear a z ∙ factor) (nested_about d (λ i. p (suc i)) a c) in
      ap (λ (t : ℕ → F). nested S into (suc d) t z) (shifted_whole R d p a)
      ∙ nested_sum R S into h (suc d) (constant R (p 0)) (product R (linear R a) q) z
      ∙ ap₂ (λ (s t : G). s ⊕ t) (nested_constant d (p 0) z) rest
      ∙ sym (nested_next R S into h d p c)

module _ {F : Type 0} (R : Ring F) where
  infixl 60 ◌⊕◌
  infixl 70 ◌⊗◌
  open R use {nil, unit, plus as ◌⊕◌, times as ◌⊗◌}

  -- a sum of series, by coefficients
  pub sum_series : (n : ℕ) (f : ℕ → ℕ → F) (k : ℕ) → sum_below (series R) n f k ≡ sum_below R n (λ i. f i k)
  unfolding series
  sum_series zero f k = ap (λ (t : ℕ → F). t k) (sum_none (series R) f) ∙ sym (sum_none R (λ i. f i k))
  sum_series (suc n) f k =
      ap (λ (t : ℕ → F). t k) (sum_next (series R) n f)
      ∙ ap (λ t. f 0 k ⊕ t) (sum_series n (λ i. f (suc i)) k)
      ∙ sym (sum_next R n (λ i. f i k))

  pub linear_power_is : (a : F) (s : ℕ) → power (series R) (linear R a) s ≡ linear_power R a s
  unfolding series
  linear_power_is a zero = power_none (series R) (linear R a) ∙ sym (fun_ext (power_first R a))
  linear_power_is a (suc s) =
      power_next (series R) (linear R a) s
      ∙ ap (λ (t : ℕ → F). product R (linear R a) t) (linear_power_is a s)
      ∙ sym (fun_ext (power_more R a s))

  linear_split : (a : F) (n : ℕ) → linear R nil n ⊕ constant R a n ≡ linear R a n
  linear_split a zero = R.plus_nil a
  linear_split a (suc n) = plus_nil R (constant R unit n)

  nil_factor : (x y : F) → x ⊕ nil ⊗ y ≡ x
  nil_factor x y = simp ring

  -- the polynomial x put for x
  nested_itself : (d : ℕ) (p : ℕ → F) (k : ℕ) → IsBelow R d p → nested (series R) (constant R) d p (linear R nil) k ≡ p k
  unfolding series
  nested_itself zero p k b = ap (λ (t : ℕ → F). t k) (nested_none R (series R) (constant R) (constants R) p (linear R nil)) ∙ sym (b k (omega arith))
  nested_itself (suc d) p zero b =
      let rest : ℕ → F = nested (series R) (constant R) d (λ i. p (suc i)) (linear R nil) in
      ap (λ (t : ℕ → F). t 0) (nested_next R (series R) (constant R) (constants R) d p (linear R nil))
      ∙ ap (λ t. p 0 ⊕ t) (linear_first R nil rest)
      ∙ nil_factor (p 0) (rest 0)
  nested_itself (suc d) p (suc k) b =
      let rest : ℕ → F = nested (series R) (constant R) d (λ i. p (suc i)) (linear R nil) in
      ap (λ (t : ℕ → F). t (suc k)) (nested_next R (series R) (constant R) (constants R) d p (linear R nil))
      ∙ ap (λ t. nil ⊕ t) (linear_next R nil rest k)
      ∙ R.plus_nil (rest k ⊕ nil ⊗ rest (suc k))
      ∙ nil_factor (rest k) (rest (suc k))
      ∙ nested_itself d (λ i. p (suc i)) k (below_tail R d p b)

  -- to go back from about a
  pub shifted_back : (d : ℕ) (p : ℕ → F) (a : F) (k : ℕ) → IsBelow R d p → shifted R d (shifted R d p a) a k ≡ p k
  unfolding series
  shifted_back d p a k b =
      ap (λ (t : ℕ → F). nested (series R) (constant R) d (shifted R d p a) t k) (sym (fun_ext (linear_split a)))
      ∙ ap (λ (t : ℕ → F). t k) (nested_about R (series R) (constant R) (constants R) d p a (linear R nil))
      ∙ nested_itself d p k b

  -- what stands about a, times powers of x + a
  shifted_powers : (d : ℕ) (p : ℕ → F) (a : F) (k : ℕ) → shifted R d p a k ≡ sum_below R d (λ u. p u ⊗ linear_power R a u k)
  unfolding series
  shifted_powers d p a k =
      ap (λ (t : ℕ → F). t k) (nested_is_sum R (series R) (constant R) (constants R) d p (linear R a))
      ∙ sum_series d (λ u. product R (constant R (p u)) (power (series R) (linear R a) u)) k
      ∙ sum_same R d (λ u. product R (constant R (p u)) (power (series R) (linear R a) u) k) (λ u. p u ⊗ linear_power R a u k)
      (λ u l. product_constant R (p u) (power (series R) (linear R a) u) k ∙ ap (λ (t : ℕ → F). p u ⊗ t k) (linear_power_is a u))

  -- a polynomial is the sum of its coefficients about a times powers of x + a
  pub expanded : (d : ℕ) (p : ℕ → F) (a : F) (k : ℕ) → IsBelow R d p → p k ≡ sum_below R d (λ u. shifted R d p a u ⊗ linear_power R a u k)
  expanded d p a k b = sym (shifted_back d p a k b) ∙ shifted_powers d (shifted R d p a) a k
