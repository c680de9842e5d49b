-- A polynomial about a point: the coefficients of p(x + a).
use Rattle.std.proofs.Common.{◌≡◌, ◌≢◌, ℕ, zero, suc, ◌+◌, ◌≤◌, refl, sym, ◌∙◌, ap, arith}
use mathlib.Core.Path.{fun_ext}
use Rattle.algebra.specs.Ring.{Ring}
use Rattle.algebra.specs.Series.{product, constant, linear, IsBelow, IsFrom}
use Rattle.algebra.proofs.RingLaws.{ring}
use Rattle.algebra.proofs.Series.{product_constant, series}
use Rattle.algebra.proofs.Nested.{nested, IsHom, itself, nested_none, nested_next, nested_more, nested_product}
use Rattle.algebra.proofs.Division.{linear_first, linear_next}

-- a product is zero only where a factor is
abbrev pub IsDomain : {F : Type 0} → Ring F → Type 0
IsDomain {F} R = (x y : F) → x ≢ R.nil → R.times x y ≡ R.nil → y ≡ R.nil

-- the coefficients of p(x + a), where p has d
abbrev pub shifted : {F : Type 0} → Ring F → ℕ → (ℕ → F) → F → ℕ → F
shifted R d p a = nested (series R) (constant R) d p (linear R a)

two_terms : {G : Type 0} (S : Ring G) (x y : G) → S.plus x (S.times y (S.plus S.unit (S.times y S.nil))) ≡ S.plus x y
two_terms S x y = simp ring

module _ {F : Type 0} (R : Ring F) where
  infixl 60 ◌⊕◌
  infixl 70 ◌⊗◌
  open R use {nil, unit, plus as ◌⊕◌, times as ◌⊗◌}

  constant_nil : (n : ℕ) → constant R nil n ≡ nil
  constant_nil zero = refl
  constant_nil (suc n) = refl

  constant_plus : (x y : F) (n : ℕ) → constant R (x ⊕ y) n ≡ constant R x n ⊕ constant R y n
  constant_plus x y zero = refl
  constant_plus x y (suc n) = sym (R.plus_nil nil)

  constant_scaled : (x y : F) (n : ℕ) → constant R (x ⊗ y) n ≡ x ⊗ constant R y n
  constant_scaled x y zero = refl
  constant_scaled x y (suc n) = simp ring

  -- elements as polynomials
  pub constants : IsHom R (series R) (constant R)
  unfolding series
  constants = record {
    keeps_nil = fun_ext constant_nil;
    keeps_unit = refl;
    keeps_plus = λ x y. fun_ext (constant_plus x y);
    keeps_times = λ x y. fun_ext (λ n. constant_scaled x y n ∙ sym (product_constant R x (constant R y) n));
  }

  pub shifted_none : (p : ℕ → F) (a : F) (u : ℕ) → shifted R 0 p a u ≡ nil
  unfolding series
  shifted_none p a u = ap (λ (t : ℕ → F). t u) (nested_none R (series R) (constant R) constants p (linear R a))

  pub shifted_first : (d : ℕ) (p : ℕ → F) (a : F) → shifted R (suc d) p a 0 ≡ p 0 ⊕ a ⊗ shifted R d (λ k. p (suc k)) a 0
  unfolding series
  shifted_first d p a =
      ap (λ (t : ℕ → F). t 0) (nested_next R (series R) (constant R) constants d p (linear R a))
      ∙ ap (λ t. p 0 ⊕ t) (linear_first R a (shifted R d (λ k. p (suc k)) a))

  -- each further coefficient comes from two of the rest
  pub shifted_next : (d : ℕ) (p : ℕ → F) (a : F) (u : ℕ)
      → shifted R (suc d) p a (suc u) ≡ shifted R d (λ k. p (suc k)) a u ⊕ a ⊗ shifted R d (λ k. p (suc k)) a (suc u)
  unfolding series
  shifted_next d p a u =
      ap (λ (t : ℕ → F). t (suc u)) (nested_next R (series R) (constant R) constants d p (linear R a))
      ∙ ap (λ t. nil ⊕ t) (linear_next R a (shifted R d (λ k. p (suc k)) a) u)
      ∙ R.plus_nil (shifted R d (λ k. p (suc k)) a u ⊕ a ⊗ shifted R d (λ k. p (suc k)) a (suc u))

  -- a polynomial has no more coefficients about a
  pub shifted_below : (d : ℕ) (p : ℕ → F) (a : F) → IsBelow R d (shifted R d p a)
  shifted_below zero p a k l = shifted_none p a k
  shifted_below (suc d) p a zero l = absurd (omega arith)
  shifted_below (suc d) p a (suc u) l =
      let here : shifted R d (λ k. p (suc k)) a u ≡ nil = shifted_below d (λ k. p (suc k)) a u (omega arith) in
      let next : shifted R d (λ k. p (suc k)) a (suc u) ≡ nil = shifted_below d (λ k. p (suc k)) a (suc u) (omega arith) in
      shifted_next d p a u ∙ simp (here, next, ring)

  -- the first coefficient about a is the value at a
  pub shifted_value : (d : ℕ) (p : ℕ → F) (a : F) → shifted R d p a 0 ≡ nested R (λ t. t) d p a
  shifted_value zero p a = shifted_none p a 0 ∙ sym (nested_none R R (λ t. t) (itself R) p a)
  shifted_value (suc d) p a =
      shifted_first d p a ∙ ap (λ t. p 0 ⊕ a ⊗ t) (shifted_value d (λ k. p (suc k)) a) ∙ sym (nested_next R R (λ t. t) (itself R) d p a)

  -- a greater bound changes nothing
  pub shifted_more : (d e : ℕ) (p : ℕ → F) (a : F) → IsBelow R d p → d ≤ e → shifted R e p a ≡ shifted R d p a
  shifted_more d e p a b l = nested_more R (series R) (constant R) constants d e p (linear R a) b l

  pub linear_below : (a : F) → IsBelow R 2 (linear R a)
  linear_below a zero l = absurd (omega arith)
  linear_below a (suc zero) l = absurd (omega arith)
  linear_below a (suc (suc k)) l = refl

  linear_sum : (a b : F) (n : ℕ) → constant R a n ⊕ linear R b n ≡ linear R (a ⊕ b) n
  linear_sum a b zero = refl
  linear_sum a b (suc n) = R.plus_nil (constant R unit n)

  -- x + a about b
  shifted_linear : (a b : F) → shifted R 2 (linear R a) b ≡ linear R (a ⊕ b)
  unfolding series
  shifted_linear a b =
      nested_next R (series R) (constant R) constants 1 (linear R a) (linear R b)
      ∙ ap (λ (t : ℕ → F). (series R).plus (constant R a) ((series R).times (linear R b) t))
      (nested_next R (series R) (constant R) constants 0 (λ k. linear R a (suc k)) (linear R b)
      ∙ ap (λ (t : ℕ → F). (series R).plus (constant R unit) ((series R).times (linear R b) t)) (nested_none R (series R) (constant R) constants (λ k. linear R a (suc (suc k))) (linear R b)))
      ∙ two_terms (series R) (constant R a) (linear R b)
      ∙ fun_ext (linear_sum a b)

  -- a factor x + a about b
  pub shifted_factor : (d : ℕ) (q : ℕ → F) (a b : F) → IsBelow R d q
      → shifted R (2 + d) (product R (linear R a) q) b ≡ product R (linear R (a ⊕ b)) (shifted R d q b)
  unfolding series
  shifted_factor d q a b bq =
      nested_product R (series R) (constant R) constants 2 d (linear R a) q (linear R b) (linear_below a) bq
      ∙ ap (λ (t : ℕ → F). product R t (shifted R d q b)) (shifted_linear a b)

  pub differ : (a b : F) → a ≢ b → a ⊕ b ≢ nil
  differ a b n e =
      n (sym (R.plus_comm a nil ∙ R.plus_nil a) ∙ ap (λ t. a ⊕ t) (sym (R.plus_self b)) ∙ sym (R.plus_assoc a b b) ∙ ap (λ t. t ⊕ b) e ∙ R.plus_nil b)

  -- zeros at the front of a product with x + c, for a c that is not zero, are zeros of the other factor
  pub front_kept : IsDomain R → (s : ℕ) (c : F) (q : ℕ → F) → c ≢ nil → IsFrom R s (product R (linear R c) q) → IsFrom R s q
  front_kept dom s c q n h zero l = dom c (q 0) n (sym (linear_first R c q) ∙ h 0 l)
  front_kept dom s c q n h (suc k) l =
      let front : q k ≡ nil = front_kept dom s c q n h k (omega arith) in
      let e : c ⊗ q (suc k) ≡ product R (linear R c) q (suc k) = sym (linear_next R c q k ∙ ap (λ t. t ⊕ c ⊗ q (suc k)) front ∙ R.plus_nil (c ⊗ q (suc k))) in
      dom c (q (suc k)) n (e ∙ h (suc k) l)

  -- and with x itself, one zero fewer
  pub front_less : (s : ℕ) (c : F) (q : ℕ → F) → c ≡ nil → IsFrom R (suc s) (product R (linear R c) q) → IsFrom R s q
  front_less s c q z h k l =
      let e : q k ⊕ c ⊗ q (suc k) ≡ q k = ap (λ t. q k ⊕ t ⊗ q (suc k)) z ∙ simp ring in
      sym e ∙ sym (linear_next R c q k) ∙ h (suc k) (omega arith)
