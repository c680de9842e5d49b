-- What (x + a)^s divides has s zeros about a, and so there are no more roots, counted with multiplicity, than the degree.
use Rattle.std.proofs.Common.{◌≡◌, ◌≢◌, inl, inr, ℕ, zero, suc, ◌+◌, ◌<◌, ◌≤◌, sym, ◌∙◌, ap, ap₂, subst, arith}
use Rattle.std.proofs.Math.Numerals.{add-one}
use Rattle.std.proofs.lemmas.Bool.{cases_lt}
use mathlib.Core.Path.{fun_ext}
use Rattle.algebra.specs.Ring.{Ring}
use Rattle.algebra.specs.Series.{product, constant, linear, linear_power, value, IsBelow, IsFrom}
use Rattle.algebra.specs.Roots.{HasRoot, total, AreDifferent}
use Rattle.algebra.proofs.Series.{product_comm, product_below, product_zero, product_from, product_from_one, product_constant, series}
use Rattle.algebra.proofs.Nested.{itself, nested_sum, nested_product, value_nested, below_more}
use Rattle.algebra.proofs.Division.{quotient, quotient_below, divided, divides}
use Rattle.algebra.proofs.Shift.{IsDomain, shifted, shifted_value, shifted_more, shifted_factor, linear_below, constants}
use Rattle.algebra.proofs.Roots.{power_first, power_more, few_zeros}

module _ {F : Type 0} (R : Ring F) where
  infixl 60 ◌⊕◌
  infixl 70 ◌⊗◌
  open R use {nil, unit, plus as ◌⊕◌, times as ◌⊗◌}

  pub value_sum : (d : ℕ) (p q : ℕ → F) (x : F) → value R d (λ k. p k ⊕ q k) x ≡ value R d p x ⊕ value R d q x
  value_sum d p q x =
      value_nested R d (λ k. p k ⊕ q k) x
      ∙ nested_sum R R (λ t. t) (itself R) d p q x
      ∙ sym (ap₂ (λ (s t : F). s ⊕ t) (value_nested R d p x) (value_nested R d q x))

  pub value_product : (d e : ℕ) (p q : ℕ → F) (x : F) → IsBelow R d p → IsBelow R e q → value R (d + e) (product R p q) x ≡ value R d p x ⊗ value R e q x
  value_product d e p q x bp bq =
      value_nested R (d + e) (product R p q) x
      ∙ nested_product R R (λ t. t) (itself R) d e p q x bp bq
      ∙ sym (ap₂ (λ (s t : F). s ⊗ t) (value_nested R d p x) (value_nested R e q x))

  pub power_below : (a : F) (s : ℕ) → IsBelow R (suc s) (linear_power R a s)
  power_below a zero zero l = absurd (omega arith)
  power_below a zero (suc k) l = power_first R a (suc k)
  power_below a (suc s) k l =
      let n : suc s + 1 ≡ suc (suc s) = omega arith in
      power_more R a s k
      ∙ product_comm R (linear R a) (linear_power R a s) k
      ∙ product_below R (suc s) 1 (linear_power R a s) (linear R a) (power_below a s) (linear_below R a) k (omega arith)

  -- (x + a)^s about a is x^s
  power_front : (a : F) (s : ℕ) → IsFrom R s (shifted R (suc s) (linear_power R a s) a)
  power_front a zero = λ k l. absurd (omega arith)
  power_front a (suc s) =
      let whole : linear_power R a (suc s) ≡ product R (linear R a) (linear_power R a s) = fun_ext (power_more R a s) in
      let about : shifted R (suc (suc s)) (linear_power R a (suc s)) a ≡ product R (linear R (a ⊕ a)) (shifted R (suc s) (linear_power R a s) a) =
      sym (shifted_more R (suc (suc s)) (2 + suc s) (linear_power R a (suc s)) a (power_below a (suc s)) (omega arith))
      ∙ ap (λ (t : ℕ → F). shifted R (2 + suc s) t a) whole
      ∙ shifted_factor R (suc s) (linear_power R a s) a a (power_below a s) in
      subst (λ (t : ℕ → F). IsFrom R (suc s) t) (sym about)
      (product_from_one R s (linear R (a ⊕ a)) (shifted R (suc s) (linear_power R a s) a) (R.plus_self a) (power_front a s))

  factors : (s d : ℕ) (a : F) (p q : ℕ → F) → IsBelow R (suc s) p → IsBelow R d q
      → shifted R (suc s + d) (product R p q) a ≡ product R (shifted R (suc s) p a) (shifted R d q a)
  unfolding series
  factors s d a p q bp bq = nested_product R (series R) (constant R) (constants R) (suc s) d p q (linear R a) bp bq

  -- a factor (x + a)^s makes s zeros at a
  pub root_zeros : (s e : ℕ) (p : ℕ → F) (a : F) → IsBelow R e p → HasRoot R s p a → IsFrom R s (shifted R e p a)
  root_zeros s e p a b h =
      let d : ℕ = suc s + h.bound in
      let whole : p ≡ product R (linear_power R a s) h.rest = fun_ext h.whole in
      let b_whole : IsBelow R d p = bounded in
      let about : shifted R e p a ≡ product R (shifted R (suc s) (linear_power R a s) a) (shifted R h.bound h.rest a) =
      sym (shifted_more R e (e + d) p a b (omega arith))
      ∙ shifted_more R d (e + d) p a b_whole (omega arith)
      ∙ ap (λ (t : ℕ → F). shifted R d t a) whole
      ∙ parts in
      subst (λ (t : ℕ → F). IsFrom R s t) (sym (about ∙ fun_ext (product_comm R (shifted R (suc s) (linear_power R a s) a) (shifted R h.bound h.rest a))))
      (product_from R s (shifted R h.bound h.rest a) (shifted R (suc s) (linear_power R a s) a) (power_front a s))
    where
      bounded : IsBelow R (suc s + h.bound) p
      bounded k l =
          h.whole k
          ∙ product_comm R (linear_power R a s) h.rest k
          ∙ product_below R h.bound s h.rest (linear_power R a s) h.below (power_below a s) k (omega arith)

      parts : shifted R (suc s + h.bound) (product R (linear_power R a s) h.rest) a ≡ product R (shifted R (suc s) (linear_power R a s) a) (shifted R h.bound h.rest a)
      parts = factors s h.bound a (linear_power R a s) h.rest (power_below a s) h.below

  -- no more zeros, counted with multiplicity, than the degree
  pub few : IsDomain R → (d n : ℕ) (m : ℕ → ℕ) (points : ℕ → F) (p : ℕ → F) → IsBelow R (d + 1) p → p d ≢ nil → AreDifferent n points
      → ((i : ℕ) → i < n → HasRoot R (m i) p (points i)) → total n m ≤ d
  few dom d n m points p b lead apart h =
      elim (cases_lt d (total n m)) [
        | inl l ↦
            let wide : IsBelow R (total n m) p = below_more R (d + 1) (total n m) p (omega arith) b in
            absurd (lead (few_zeros R dom n m points p apart wide (λ i k. root_zeros (m i) (total n m) p (points i) wide (h i k)) d (omega arith)))
        | inr l ↦ l
      ]

  -- (x + a)^1
  power_one : (a : F) (k : ℕ) → linear_power R a 1 k ≡ linear R a k
  power_one a k =
      power_more R a 0 k
      ∙ ap (λ (t : ℕ → F). product R (linear R a) t k) (fun_ext (power_first R a))
      ∙ product_comm R (linear R a) (constant R unit) k
      ∙ product_constant R unit (linear R a) k
      ∙ R.times_unit (linear R a k)

  -- where the value is zero, x + a divides
  pub root_of_value : (d : ℕ) (p : ℕ → F) (a : F) → IsBelow R d p → value R d p a ≡ nil → HasRoot R 1 p a
  root_of_value zero p a b v = record {
    rest = p;
    bound = 0;
    below = b;
    whole = λ k. b k (omega arith) ∙ sym (product_comm R (linear_power R a 1) p k ∙ product_zero R p (linear_power R a 1) b k);
  }
  root_of_value (suc d) p a b v = record {
    rest = quotient R d p a;
    bound = d;
    below = quotient_below R d p a b;
    whole = λ k.
        ap (λ (t : ℕ → F). t k) (divides R d p a b v)
        ∙ ap (λ (t : ℕ → F). product R t (quotient R d p a) k) (sym (fun_ext (power_one a)));
  }

  -- and where x + a divides, the value is zero
  pub value_of_root : (d : ℕ) (p : ℕ → F) (a : F) → IsBelow R d p → HasRoot R 1 p a → value R d p a ≡ nil
  value_of_root d p a b h = value_nested R d p a ∙ sym (shifted_value R d p a) ∙ root_zeros 1 d p a b h 0 (omega arith)

  -- quotient and rest, with the number of coefficients as contracts say it
  pub divided_by : (d : ℕ) (p : ℕ → F) (a : F) → IsBelow R (d + 1) p
      → (q : ℕ → F) × IsBelow R d q × ((k : ℕ) → p k ≡ product R (linear R a) q k ⊕ constant R (value R (d + 1) p a) k)
  divided_by d p a b =
      let more : d + 1 ≡ suc d = add-one d in
      let b_more : IsBelow R (suc d) p = subst (λ t. IsBelow R t p) more b in (
        quotient R d p a,
        quotient_below R d p a b_more,
        λ k. divided R d k p a b_more ∙ ap (λ t. product R (linear R a) (quotient R d p a) k ⊕ constant R (value R t p a) k) (sym more),
      )
