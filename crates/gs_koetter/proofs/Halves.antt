-- Derivatives of a polynomial from the two halves of its coefficients: in characteristic two x^h is (x + a)^h + a^h where h is a power of two.
use Rattle.std.proofs.Common.{◌≡◌, ◌⊎◌, inl, inr, ℕ, zero, suc, ◌+◌, ◌-◌, ◌*◌, ◌^◌, ◌<◌, ◌≤◌, List, length, ◌∙◌, sym, ap, ap₂, subst, arith}
use Rattle.std.proofs.lemmas.Bool.{cases_lt}
use Rattle.std.proofs.Math.Nat.{pow-suc}
use Rattle.algebra.specs.Bivariate.{weight}
use Rattle.algebra.specs.Ring.{Ring}
use Rattle.algebra.specs.Lists.{coefficients}
use Rattle.algebra.specs.Sums.{power, sum_below}
use Rattle.algebra.proofs.CoefficientLists.{coefficients_below}
use Rattle.algebra.proofs.RingLaws.{plus_nil, ring, times_nil}
use Rattle.algebra.proofs.Sums.{power_next, power_none, sum_next, sum_none, sum_plus, sum_same, sum_zero}
use Rattle.algebra.proofs.Weights.{weight_first, weight_next, weight_none}
use Rattle.koetter_terms.specs.Derivatives.{derivative}
use Rattle.koetter_terms.proofs.Derivatives.{derivative_is}

pub double : (n : ℕ) → 2 ^ suc n ≡ 2 ^ n + 2 ^ n
double n = omega (arith, pow-suc 2 n)

module _ {F : Type 0} (R : Ring F) where
  infixl 60 ◌⊕◌
  infixl 70 ◌⊗◌
  open R use {nil, unit, plus as ◌⊕◌, times as ◌⊗◌}

  -- what stands at h + i about a, where c is a^h
  pub record Folds (a : F) (h : ℕ) (c : F) : Type 0 where
    pub high : (i u : ℕ) → weight R a (h + i) (h + u) ≡ weight R a i u ⊕ c ⊗ weight R a i (h + u)
    pub low : (i u : ℕ) → u < h → weight R a (h + i) u ≡ c ⊗ weight R a i u

  fold_one : (a : F) → Folds a 1 a
  fold_one a = record {
    high = λ i u.
        let x : 1 + i ≡ suc i = omega arith in
        let y : 1 + u ≡ suc u = omega arith in
        ap₂ (weight R a) x y ∙ weight_next R a i u ∙ ap (λ n. weight R a i u ⊕ a ⊗ weight R a i n) (sym y);
    low = λ i u l.
        let x : 1 + i ≡ suc i = omega arith in
        let none : u ≡ 0 = omega (arith, l) in
        ap₂ (weight R a) x none ∙ weight_first R a (suc i) ∙ power_next R a i ∙ ap (λ t. a ⊗ t) (sym (weight_first R a i)) ∙ ap (λ n. a ⊗ weight R a i n) (sym none);
  }

  fold_twice : (a : F) (h : ℕ) (c : F) → Folds a h c → Folds a (h + h) (c ⊗ c)
  fold_twice a h c folds = record {
    high = λ i u.
        let x : h + h + i ≡ h + (h + i) = omega arith in
        let y : h + h + u ≡ h + (h + u) = omega arith in
        ap₂ (weight R a) x y
        ∙ folds.high (h + i) (h + u)
        ∙ ap₂ (λ (s t : F). s ⊕ c ⊗ t) (folds.high i u) (folds.high i (h + u))
        ∙ both (weight R a i u) (weight R a i (h + u)) (weight R a i (h + (h + u)))
        ∙ ap (λ n. weight R a i u ⊕ c ⊗ c ⊗ weight R a i n) (sym y);
    low = λ i u l. by_order i u l (cases_lt u h);
  }
    where
      both : (x y z : F) → x ⊕ c ⊗ y ⊕ c ⊗ (y ⊕ c ⊗ z) ≡ x ⊕ c ⊗ c ⊗ z
      both x y z =
          let split : x ⊕ c ⊗ y ⊕ c ⊗ (y ⊕ c ⊗ z) ≡ x ⊕ c ⊗ c ⊗ z ⊕ (c ⊗ y ⊕ c ⊗ y) = simp ring in
          split ∙ ap (λ t. x ⊕ c ⊗ c ⊗ z ⊕ t) (R.plus_self (c ⊗ y)) ∙ plus_nil R (x ⊕ c ⊗ c ⊗ z)

      one : (x y : F) → c ⊗ x ⊕ c ⊗ (x ⊕ c ⊗ y) ≡ c ⊗ c ⊗ y
      one x y =
          let split : c ⊗ x ⊕ c ⊗ (x ⊕ c ⊗ y) ≡ c ⊗ c ⊗ y ⊕ (c ⊗ x ⊕ c ⊗ x) = simp ring in
          split ∙ ap (λ t. c ⊗ c ⊗ y ⊕ t) (R.plus_self (c ⊗ x)) ∙ plus_nil R (c ⊗ c ⊗ y)

      by_order : (i u : ℕ) → u < h + h → (u < h) ⊎ (h ≤ u) → weight R a (h + h + i) u ≡ c ⊗ c ⊗ weight R a i u
      by_order i u l (inl less) =
          let x : h + h + i ≡ h + (h + i) = omega arith in
          let turned : c ⊗ (c ⊗ weight R a i u) ≡ c ⊗ c ⊗ weight R a i u = simp ring in
          ap (λ n. weight R a n u) x ∙ folds.low (h + i) u less ∙ ap (λ t. c ⊗ t) (folds.low i u less) ∙ turned
      by_order i u l (inr most) =
          let x : h + h + i ≡ h + (h + i) = omega arith in
          let v : ℕ = u - h in
          let y : u ≡ h + v = omega (arith, most) in
          let small : v < h = omega (arith, l, most) in
          ap₂ (weight R a) x y
          ∙ folds.high (h + i) v
          ∙ ap₂ (λ (s t : F). s ⊕ c ⊗ t) (folds.low i v small) (folds.high i v)
          ∙ one (weight R a i v) (weight R a i (h + v))
          ∙ ap (λ n. c ⊗ c ⊗ weight R a i n) (sym y)

  power_plus : (a : F) (m n : ℕ) → power R a (m + n) ≡ power R a m ⊗ power R a n
  power_plus a zero n =
      let x : 0 + n ≡ n = omega arith in
      ap (power R a) x ∙ sym (ap (λ t. t ⊗ power R a n) (power_none R a) ∙ R.times_unit (power R a n))
  power_plus a (suc m) n =
      let x : suc m + n ≡ suc (m + n) = omega arith in
      let turned : a ⊗ (power R a m ⊗ power R a n) ≡ a ⊗ power R a m ⊗ power R a n = simp ring in
      ap (power R a) x ∙ power_next R a (m + n) ∙ ap (λ t. a ⊗ t) (power_plus a m n) ∙ turned ∙ ap (λ t. t ⊗ power R a n) (sym (power_next R a m))

  -- the square of one such power is the next
  pub square_next : (a : F) (n : ℕ) → power R a (2 ^ suc n) ≡ power R a (2 ^ n) ⊗ power R a (2 ^ n)
  square_next a n = ap (power R a) (double n) ∙ power_plus a (2 ^ n) (2 ^ n)

  pub square_first : (a : F) → power R a (2 ^ 0) ≡ a
  square_first a = power_next R a 0 ∙ ap (λ t. a ⊗ t) (power_none R a) ∙ R.times_comm a unit ∙ R.times_unit a

  pub folds : (a : F) (n : ℕ) → Folds a (2 ^ n) (power R a (2 ^ n))
  folds a zero = subst (Folds a 1) (sym (square_first a)) (fold_one a)
  folds a (suc n) = subst (λ h. Folds a h (power R a (2 ^ suc n))) (sym (double n)) (subst (Folds a (2 ^ n + 2 ^ n)) (sym (square_next a n)) (fold_twice a (2 ^ n) (power R a (2 ^ n)) (folds a n)))

  weight_past : (a : F) (i u : ℕ) → i < u → weight R a i u ≡ nil
  weight_past a zero zero l = absurd (omega (arith, l))
  weight_past a zero (suc u) l = weight_none R a u
  weight_past a (suc i) zero l = absurd (omega (arith, l))
  weight_past a (suc i) (suc u) l =
      weight_next R a i u
      ∙ ap₂ (λ (s t : F). s ⊕ a ⊗ t) (weight_past a i u (omega (arith, l))) (weight_past a i (suc u) (omega (arith, l)))
      ∙ simp ring

  sum_split : (m n : ℕ) (f : ℕ → F) → sum_below R (m + n) f ≡ sum_below R m f ⊕ sum_below R n (λ i. f (m + i))
  sum_split zero n f =
      let x : 0 + n ≡ n = omega arith in
      ap (λ k. sum_below R k f) x
      ∙ sum_same R n f (λ i. f (0 + i)) (λ i l. let y : i ≡ 0 + i = omega arith in ap f y)
      ∙ sym (ap (λ t. t ⊕ sum_below R n (λ i. f (0 + i))) (sum_none R f) ∙ R.plus_nil (sum_below R n (λ i. f (0 + i))))
  sum_split (suc m) n f =
      let x : suc m + n ≡ suc (m + n) = omega arith in
      let moved : f 0 ⊕ (sum_below R m (λ i. f (suc i)) ⊕ sum_below R n (λ i. f (suc (m + i)))) ≡ f 0 ⊕ sum_below R m (λ i. f (suc i)) ⊕ sum_below R n (λ i. f (suc (m + i))) = simp ring in
      ap (λ k. sum_below R k f) x
      ∙ sum_next R (m + n) f
      ∙ ap (λ t. f 0 ⊕ t) (sum_split m n (λ i. f (suc i)))
      ∙ moved
      ∙ ap₂ (λ (s t : F). s ⊕ t) (sym (sum_next R m f)) (sum_same R n (λ i. f (suc (m + i))) (λ i. f (suc m + i)) (λ i l. let y : suc (m + i) ≡ suc m + i = omega arith in ap f y))

  module _ (n : ℕ) (p : ℕ → F) (a : F) (u : ℕ) where
    halves : derivative R (2 ^ suc n) p a u ≡ sum_below R (2 ^ n) (λ i. p i ⊗ weight R a i u) ⊕ sum_below R (2 ^ n) (λ i. p (2 ^ n + i) ⊗ weight R a (2 ^ n + i) u)
    halves = derivative_is R (2 ^ suc n) p a u ∙ ap (λ k. sum_below R k (λ i. p i ⊗ weight R a i u)) (double n) ∙ sum_split (2 ^ n) (2 ^ n) (λ i. p i ⊗ weight R a i u)

    -- low orders: the upper half is added to the lower one, times a^h
    pub lower_half : (c : F) → c ≡ power R a (2 ^ n) → u < 2 ^ n → derivative R (2 ^ suc n) p a u ≡ derivative R (2 ^ n) (λ i. p i ⊕ c ⊗ p (2 ^ n + i)) a u
    lower_half c is l =
        let term : (i : ℕ) → p i ⊗ weight R a i u ⊕ p (2 ^ n + i) ⊗ (c ⊗ weight R a i u) ≡ (p i ⊕ c ⊗ p (2 ^ n + i)) ⊗ weight R a i u = λ i. simp ring in
        halves
        ∙ ap (λ t. sum_below R (2 ^ n) (λ i. p i ⊗ weight R a i u) ⊕ t)
        (sum_same R (2 ^ n) (λ i. p (2 ^ n + i) ⊗ weight R a (2 ^ n + i) u) (λ i. p (2 ^ n + i) ⊗ (c ⊗ weight R a i u))
        (λ i m. ap (λ t. p (2 ^ n + i) ⊗ t) ((folds a n).low i u l ∙ ap (λ t. t ⊗ weight R a i u) (sym is))))
        ∙ sym (sum_plus R (2 ^ n) (λ i. p i ⊗ weight R a i u) (λ i. p (2 ^ n + i) ⊗ (c ⊗ weight R a i u)))
        ∙ sum_same R (2 ^ n) (λ i. p i ⊗ weight R a i u ⊕ p (2 ^ n + i) ⊗ (c ⊗ weight R a i u)) (λ i. (p i ⊕ c ⊗ p (2 ^ n + i)) ⊗ weight R a i u) (λ i m. term i)
        ∙ sym (derivative_is R (2 ^ n) (λ i. p i ⊕ c ⊗ p (2 ^ n + i)) a u)

    -- high orders: only the upper half counts
    pub upper_half : (v : ℕ) → u ≡ 2 ^ n + v → derivative R (2 ^ suc n) p a u ≡ derivative R (2 ^ n) (λ i. p (2 ^ n + i)) a v
    upper_half v is =
        halves
        ∙ ap₂ (λ (s t : F). s ⊕ t)
        (sum_zero_of (λ i. p i ⊗ weight R a i u) (λ i l. ap (λ t. p i ⊗ t) (weight_past a i u (omega (arith, is, l))) ∙ times_nil R (p i)))
        (sum_same R (2 ^ n) (λ i. p (2 ^ n + i) ⊗ weight R a (2 ^ n + i) u) (λ i. p (2 ^ n + i) ⊗ weight R a i v) (λ i l. ap (λ t. p (2 ^ n + i) ⊗ t) (same i l)))
        ∙ R.plus_nil (sum_below R (2 ^ n) (λ i. p (2 ^ n + i) ⊗ weight R a i v))
        ∙ sym (derivative_is R (2 ^ n) (λ i. p (2 ^ n + i)) a v)
      where
        sum_zero_of : (f : ℕ → F) → ((i : ℕ) → i < 2 ^ n → f i ≡ nil) → sum_below R (2 ^ n) f ≡ nil
        sum_zero_of f none = sum_zero R (2 ^ n) f none

        same : (i : ℕ) → i < 2 ^ n → weight R a (2 ^ n + i) u ≡ weight R a i v
        same i l =
            ap (weight R a (2 ^ n + i)) is
            ∙ (folds a n).high i v
            ∙ ap (λ t. weight R a i v ⊕ power R a (2 ^ n) ⊗ t) (weight_past a i (2 ^ n + v) (omega (arith, l)))
            ∙ simp ring

  -- a polynomial with one coefficient
  pub one_term : (p : ℕ → F) (a : F) (u : ℕ) → derivative R (2 ^ 0) p a u ≡ p 0 ⊗ weight R a 0 u
  one_term p a u = derivative_is R 1 p a u ∙ sum_next R 0 (λ i. p i ⊗ weight R a i u) ∙ ap (λ t. p 0 ⊗ weight R a 0 u ⊕ t) (sum_none R (λ i. p (suc i) ⊗ weight R a (suc i) u)) ∙ plus_nil R (p 0 ⊗ weight R a 0 u)

  -- a table of one row
  pub one_value : (m width u j : ℕ) (table : List F) (a : F) → m ≡ 0 → length table ≤ width → j < width → coefficients R table (u * width + j) ≡ derivative R (2 ^ m) (λ i. coefficients R table (i * width + j)) a u
  one_value m width u j table a none long l =
      by_row u
      ∙ sym (one_term (λ i. coefficients R table (i * width + j)) a u)
      ∙ ap (λ k. derivative R (2 ^ k) (λ i. coefficients R table (i * width + j)) a u) (sym none)
    where
      by_row : (u : ℕ) → coefficients R table (u * width + j) ≡ coefficients R table (0 * width + j) ⊗ weight R a 0 u
      by_row zero =
          sym (ap (λ t. coefficients R table (0 * width + j) ⊗ t) (weight_first R a 0 ∙ power_none R a) ∙ R.times_comm (coefficients R table (0 * width + j)) unit ∙ R.times_unit (coefficients R table (0 * width + j)))
      by_row (suc u) =
          coefficients_below R table (suc u * width + j) (omega (arith, long))
          ∙ sym (ap (λ t. coefficients R table (0 * width + j) ⊗ t) (weight_none R a u) ∙ times_nil R (coefficients R table (0 * width + j)))
