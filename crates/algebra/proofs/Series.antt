-- Power series are a ring: the laws of their product, and where a product has coefficients.
use Rattle.std.proofs.Common.{◌≡◌, ℕ, zero, suc, ◌+◌, refl, sym, ◌∙◌, ap, ap₂, arith}
use mathlib.Core.Path.{fun_ext}
use Rattle.algebra.specs.Ring.{Ring}
use Rattle.algebra.specs.Series.{product, constant, IsBelow, IsFrom}
use Rattle.algebra.proofs.RingLaws.{ring}

module _ {F : Type 0} (R : Ring F) where
  infixl 60 ◌⊕◌
  infixl 70 ◌⊗◌
  open R use {nil, unit, plus as ◌⊕◌, times as ◌⊗◌}

  pub product_first : (p q : ℕ → F) → product R p q 0 ≡ p 0 ⊗ q 0
  unfolding product
  product_first p q = refl

  pub product_next : (p q : ℕ → F) (n : ℕ) → product R p q (suc n) ≡ product R (λ k. p (suc k)) q n ⊕ p 0 ⊗ q (suc n)
  unfolding product
  product_next p q n = refl

  pub product_sum_left : (p q r : ℕ → F) (n : ℕ) → product R (λ k. p k ⊕ q k) r n ≡ product R p r n ⊕ product R q r n
  product_sum_left p q r zero = simp (product_first, ring)
  product_sum_left p q r (suc n) = simp (product_next, product_sum_left (λ k. p (suc k)) (λ k. q (suc k)) r n, ring)

  pub product_scaled : (c : F) (p q : ℕ → F) (n : ℕ) → product R (λ k. c ⊗ p k) q n ≡ c ⊗ product R p q n
  product_scaled c p q zero = simp (product_first, ring)
  product_scaled c p q (suc n) = simp (product_next, product_scaled c (λ k. p (suc k)) q n, ring)

  -- the recursion along the second factor
  pub product_tail : (p q : ℕ → F) (n : ℕ) → product R p q (suc n) ≡ product R p (λ k. q (suc k)) n ⊕ q 0 ⊗ p (suc n)
  product_tail p q zero = rw (product_next p q 0) (simp (product_first, ring))
  product_tail p q (suc n) =
      rw (product_next p q (suc n)) (rw (product_next p (λ k. q (suc k)) n) (rw (product_tail (λ k. p (suc k)) q n) (simp ring)))

  pub product_comm : (p q : ℕ → F) (n : ℕ) → product R p q n ≡ product R q p n
  product_comm p q zero = simp (product_first, ring)
  product_comm p q (suc n) =
      product_next p q n ∙ ap (λ t. t ⊕ p 0 ⊗ q (suc n)) (product_comm (λ k. p (suc k)) q n) ∙ sym (product_tail q p n)

  pub product_sum : (p q r : ℕ → F) (n : ℕ) → product R p (λ k. q k ⊕ r k) n ≡ product R p q n ⊕ product R p r n
  product_sum p q r n =
      product_comm p (λ k. q k ⊕ r k) n ∙ product_sum_left q r p n ∙ ap₂ (λ (s t : F). s ⊕ t) (product_comm q p n) (product_comm r p n)

  pub product_assoc : (p q r : ℕ → F) (n : ℕ) → product R (product R p q) r n ≡ product R p (product R q r) n
  product_assoc p q r zero = simp (product_first, ring)
  product_assoc p q r (suc n) =
      simp (product_next, product_sum_left, product_assoc (λ k. p (suc k)) q r n, product_scaled, product_first, ring)

  pub product_nil : (q : ℕ → F) (n : ℕ) → product R (λ k. nil) q n ≡ nil
  product_nil q zero = simp (product_first, ring)
  product_nil q (suc n) = simp (product_next, product_nil q n, ring)

  pub product_constant : (c : F) (q : ℕ → F) (n : ℕ) → product R (constant R c) q n ≡ c ⊗ q n
  product_constant c q zero = product_first (constant R c) q
  product_constant c q (suc n) = product_next (constant R c) q n ∙ ap (λ t. t ⊕ c ⊗ q (suc n)) (product_nil q n) ∙ simp ring

  -- a product depends on the coefficients alone
  pub product_same : (p q r s : ℕ → F) (n : ℕ) → ((k : ℕ) → p k ≡ r k) → ((k : ℕ) → q k ≡ s k) → product R p q n ≡ product R r s n
  product_same p q r s n h g = ap₂ (λ (a b : ℕ → F). product R a b n) (fun_ext h) (fun_ext g)

  unfoldable pub series : Ring (ℕ → F)
  series = record {
    nil = λ n. nil;
    unit = constant R unit;
    plus = λ p q n. p n ⊕ q n;
    times = product R;
    plus_comm = λ p q. fun_ext (λ n. R.plus_comm (p n) (q n));
    plus_assoc = λ p q r. fun_ext (λ n. R.plus_assoc (p n) (q n) (r n));
    plus_nil = λ p. fun_ext (λ n. R.plus_nil (p n));
    plus_self = λ p. fun_ext (λ n. R.plus_self (p n));
    times_comm = λ p q. fun_ext (product_comm p q);
    times_assoc = λ p q r. fun_ext (product_assoc p q r);
    times_unit = λ p. fun_ext (λ n. product_constant unit p n ∙ R.times_unit (p n));
    times_plus = λ p q r. fun_ext (product_sum p q r);
  }

  -- a factor that is zero everywhere
  pub product_zero : (p q : ℕ → F) → IsBelow R 0 p → (n : ℕ) → product R p q n ≡ nil
  product_zero p q b n = product_same p q (λ k. nil) q n (λ k. b k (omega arith)) (λ k. refl) ∙ product_nil q n

  -- d coefficients times a degree of e
  pub product_below : (d e : ℕ) (p q : ℕ → F) → IsBelow R d p → IsBelow R (suc e) q → IsBelow R (d + e) (product R p q)
  product_below zero e p q bp bq k l = product_zero p q bp k
  product_below (suc d) e p q bp bq zero l = absurd (omega arith)
  product_below (suc d) e p q bp bq (suc k) l =
      let rest : product R (λ i. p (suc i)) q k ≡ nil = product_below d e (λ i. p (suc i)) q (λ i j. bp (suc i) (omega arith)) bq k (omega arith) in
      let last : q (suc k) ≡ nil = bq (suc k) (omega arith) in
      product_next p q k ∙ simp (rest, last, ring)

  -- s zeros at the front of one factor
  pub product_from : (s : ℕ) (p q : ℕ → F) → IsFrom R s q → IsFrom R s (product R p q)
  product_from s p q h zero l = product_first p q ∙ ap (λ t. p 0 ⊗ t) (h 0 l) ∙ simp ring
  product_from s p q h (suc k) l =
      let front : product R (λ i. p (suc i)) q k ≡ nil = product_from s (λ i. p (suc i)) q h k (omega arith) in
      product_next p q k ∙ simp (front, h (suc k) l, ring)

  -- and one more at the front of the other
  pub product_from_one : (s : ℕ) (p q : ℕ → F) → p 0 ≡ nil → IsFrom R s q → IsFrom R (suc s) (product R p q)
  product_from_one s p q o h zero l = product_first p q ∙ ap (λ t. t ⊗ q 0) o ∙ simp ring
  product_from_one s p q o h (suc k) l =
      let front : product R (λ i. p (suc i)) q k ≡ nil = product_from s (λ i. p (suc i)) q h k (omega arith) in
      product_next p q k ∙ simp (front, o, ring)
