-- A polynomial has no more roots than its degree says, each counted as often as it divides.
use Rattle.std.proofs.Common.{◌≡◌, ◌≢◌, ℕ, zero, suc, ◌+◌, ◌<◌, refl, sym, ◌∙◌, ap, subst, arith}
use mathlib.Core.Path.{fun_ext}
use Rattle.algebra.specs.Ring.{Ring}
use Rattle.algebra.specs.Series.{product, constant, linear, linear_power, value, IsBelow, IsFrom}
use Rattle.algebra.specs.Roots.{total, AreDifferent}
use Rattle.algebra.proofs.Series.{product_zero, product_constant, product_comm, product_assoc}
use Rattle.algebra.proofs.Nested.{value_nested}
use Rattle.algebra.proofs.Division.{quotient, quotient_below, divides}
use Rattle.algebra.proofs.Shift.{IsDomain, shifted, shifted_value, shifted_more, shifted_factor, differ, front_kept, front_less}

module _ {F : Type 0} (R : Ring F) where
  infixl 60 ◌⊕◌
  infixl 70 ◌⊗◌
  open R use {nil, unit, plus as ◌⊕◌, times as ◌⊗◌}

  pub power_first : (a : F) (n : ℕ) → linear_power R a 0 n ≡ constant R unit n
  unfolding linear_power
  power_first a n = refl

  pub power_more : (a : F) (s n : ℕ) → linear_power R a (suc s) n ≡ product R (linear R a) (linear_power R a s) n
  unfolding linear_power
  power_more a s n = refl

  -- what stands beside (x + a)^s in p, which had e coefficients: it has d, is zero only if p is, and has the zeros that p has elsewhere
  pub record Split (s d e : ℕ) (p : ℕ → F) (a : F) : Type 0 where
    pub rest : ℕ → F
    pub below : IsBelow R d rest
    pub whole : (k : ℕ) → p k ≡ product R (linear_power R a s) rest k
    pub there : (b : F) (k : ℕ) → a ≢ b → IsFrom R k (shifted R e p b) → IsFrom R k (shifted R d rest b)

  module _ (dom : IsDomain R) where
    -- s zeros at a make a factor (x + a)^s
    pub split : (s d e : ℕ) (p : ℕ → F) (a : F) → e ≡ s + d → IsBelow R e p → IsFrom R s (shifted R e p a) → Split s d e p a
    split zero d e p a n b z =
        let same : e ≡ d = omega arith in
        record {
          rest = p;
          below = subst (λ t. IsBelow R t p) same b;
          whole = λ k. sym (product_same_first p k);
          there = λ c k _ f. subst (λ t. IsFrom R k (shifted R t p c)) same f;
        }
      where
        product_same_first : (q : ℕ → F) (k : ℕ) → product R (linear_power R a 0) q k ≡ q k
        product_same_first q k =
            ap (λ (t : ℕ → F). product R t q k) (fun_ext (power_first a)) ∙ product_constant R unit q k ∙ R.times_unit (q k)
    split (suc s) d zero p a n b z = absurd (omega arith)
    split (suc s) d (suc e) p a n b z =
        let root : value R (suc e) p a ≡ nil = value_nested R (suc e) p a ∙ sym (shifted_value R (suc e) p a) ∙ z 0 (omega arith) in
        let q : ℕ → F = quotient R e p a in
        let q_below : IsBelow R e q = quotient_below R e p a b in
        let same : p ≡ product R (linear R a) q = divides R e p a b root in
        let about : (c : F) → shifted R (suc e) p c ≡ product R (linear R (a ⊕ c)) (shifted R e q c) = λ c.
        sym (shifted_more R (suc e) (2 + e) p c b (omega arith))
        ∙ ap (λ (t : ℕ → F). shifted R (2 + e) t c) same
        ∙ shifted_factor R e q a c q_below in
        let zeros : IsFrom R s (shifted R e q a) =
        front_less R s (a ⊕ a) (shifted R e q a) (R.plus_self a) (subst (λ (t : ℕ → F). IsFrom R (suc s) t) (about a) z) in
        let further : Split s d e q a = split s d e q a (omega arith) q_below zeros in
        record {
          rest = further.rest;
          below = further.below;
          whole = λ k.
              ap (λ (t : ℕ → F). t k) same
              ∙ ap (λ (t : ℕ → F). product R (linear R a) t k) (fun_ext further.whole)
              ∙ sym (product_assoc R (linear R a) (linear_power R a s) further.rest k)
              ∙ ap (λ (t : ℕ → F). product R t further.rest k) (sym (fun_ext (power_more a s)));
          there = λ c k o f.
              further.there c k o (front_kept R dom k (a ⊕ c) (shifted R e q c) (differ R a c o) (subst (λ (t : ℕ → F). IsFrom R k t) (about c) f));
        }

    -- zeros of orders m i at n different points, and as many coefficients: the polynomial is zero
    pub few_zeros : (n : ℕ) (m : ℕ → ℕ) (points : ℕ → F) (p : ℕ → F) → AreDifferent n points → IsBelow R (total n m) p
        → ((i : ℕ) → i < n → IsFrom R (m i) (shifted R (total n m) p (points i))) → IsBelow R 0 p
    few_zeros zero m points p apart b z = b
    few_zeros (suc n) m points p apart b z =
        let off : Split (m n) (total n m) (m n + total n m) p (points n) =
        split (m n) (total n m) (m n + total n m) p (points n) refl b (z n (omega arith)) in
        let other : (i : ℕ) → i < n → points n ≢ points i = λ i l e.
        let same : n ≡ i = apart n i (omega arith) (omega arith) e in absurd (omega arith) in
        let zero_rest : IsBelow R 0 off.rest =
        few_zeros n m points off.rest (λ i j l k e. apart i j (omega arith) (omega arith) e) off.below
        (λ i l. off.there (points i) (m i) (other i l) (z i (omega arith))) in
        λ k l. off.whole k ∙ product_comm R (linear_power R (points n) (m n)) off.rest k ∙ product_zero R off.rest (linear_power R (points n) (m n)) zero_rest k

-- one for each of n
ones : (n : ℕ) → total n (λ _. 1) ≡ n
ones zero = refl
ones (suc n) = let e : total n (λ _. 1) ≡ n = ones n in omega arith

-- a polynomial with n coefficients and n different roots is zero
pub few_roots : {F : Type 0} (R : Ring F) → IsDomain R → (n : ℕ) (points : ℕ → F) (p : ℕ → F) → AreDifferent n points → IsBelow R n p
    → ((i : ℕ) → i < n → value R n p (points i) ≡ R.nil) → IsBelow R 0 p
few_roots R dom n points p apart b z =
    let all : total n (λ _. 1) ≡ n = ones n in
    few_zeros R dom n (λ _. 1) points p apart (subst (λ t. IsBelow R t p) (sym all) b)
    (λ i l. subst (λ t. IsFrom R 1 (shifted R t p (points i))) (sym all) (front i l))
  where
    front : (i : ℕ) → i < n → IsFrom R 1 (shifted R n p (points i))
    front i l zero k = shifted_value R n p (points i) ∙ sym (value_nested R n p (points i)) ∙ z i l
    front i l (suc j) k = absurd (omega arith)
