-- What stands for Q(x, x y + g) gives at y = f(x) what Q gives at y = x f(x) + g.
use Rattle.std.proofs.Common.{◌≡◌, ◌≢◌, inl, inr, ℕ, zero, suc, ◌+◌, ◌-◌, ◌≤◌, Bool, true, false, sym, ◌∙◌, ap, arith}
use Rattle.std.specs.Prelude.{if◌then◌else◌, ◌==◌}
use Rattle.std.proofs.lemmas.Bool.{cases_lt, eq-eqb, ne_eqb}
use mathlib.Core.Path.{fun_ext}
use Rattle.algebra.specs.Ring.{Ring}
use Rattle.algebra.specs.Sums.{sum_below, power}
use Rattle.algebra.specs.Series.{product, constant, linear, IsBelow}
use Rattle.algebra.specs.Bivariate.{Bivariate, IsWithin, coefficient, weight, greatest, x_power, y_power, raised, substituted, shift_of}
use Rattle.algebra.proofs.RingLaws.{ring, plus_nil}
use Rattle.algebra.proofs.Sums.{sum_same, sum_nil, sum_zero, sum_only, power_none, power_next}
use Rattle.algebra.proofs.Series.{product_constant, product_assoc, series}
use Rattle.algebra.proofs.Nested.{nested, itself, nested_more, nested_is_sum}
use Rattle.algebra.proofs.Division.{linear_first, linear_next}
use Rattle.algebra.proofs.Shift.{shifted, shifted_below}
use Rattle.algebra.proofs.Entries.{terms_sum, coefficient_past, within}
use Rattle.algebra.proofs.Derivatives.{column, columns_below, row_is_sum, rows_below}
use Rattle.algebra.proofs.Substitution.{raised_low, raised_high, raised_none, raised_first, raised_next, substituted_is}
use Rattle.algebra.proofs.Composition.{composed, composed_about}

module _ {F : Type 0} (R : Ring F) where
  infixl 60 ◌⊕◌
  infixl 70 ◌⊗◌
  open R use {nil, unit, plus as ◌⊕◌, times as ◌⊗◌}

  pub power_product : (x y : F) (n : ℕ) → power R (x ⊗ y) n ≡ power R x n ⊗ power R y n
  power_product x y zero = simp (power_none, ring)
  power_product x y (suc n) = simp (power_next, power_product x y n, ring)

  -- a factor of the argument goes into the coefficients
  pub nested_stretched : (d : ℕ) (p : ℕ → F) (x y : F) → nested R (λ t. t) d p (x ⊗ y) ≡ nested R (λ t. t) d (λ j. power R x j ⊗ p j) y
  nested_stretched d p x y =
      nested_is_sum R R (λ t. t) (itself R) d p (x ⊗ y)
      ∙ sum_same R d (λ j. p j ⊗ power R (x ⊗ y) j) (λ j. power R x j ⊗ p j ⊗ power R y j)
      (λ j _. ap (λ t. p j ⊗ t) (power_product x y j) ∙ simp ring)
      ∙ sym (nested_is_sum R R (λ t. t) (itself R) d (λ j. power R x j ⊗ p j) y)

module _ {F : Type 0} (R : Ring F) where
  infixl 60 ◌⊕◌
  infixl 70 ◌⊗◌
  open R use {nil, unit, plus as ◌⊕◌, times as ◌⊗◌}

  nil_multiple : (x : F) → nil ⊗ x ≡ nil
  nil_multiple x = simp ring

  -- a power of x as a factor
  pub raised_is : (i : ℕ) (p : ℕ → F) (k : ℕ) → product R (power (series R) (linear R nil) i) p k ≡ raised R i p k
  unfolding series
  raised_is zero p k =
      ap (λ (t : ℕ → F). product R t p k) (power_none (series R) (linear R nil))
      ∙ product_constant R unit p k
      ∙ R.times_unit (p k)
      ∙ sym (raised_none R p k)
  raised_is (suc i) p zero =
      let rest : ℕ → F = product R (power (series R) (linear R nil) i) p in
      ap (λ (t : ℕ → F). product R t p 0) (power_next (series R) (linear R nil) i)
      ∙ product_assoc R (linear R nil) (power (series R) (linear R nil) i) p 0
      ∙ linear_first R nil rest
      ∙ nil_multiple (rest 0)
      ∙ sym (raised_first R i p)
  raised_is (suc i) p (suc k) =
      let rest : ℕ → F = product R (power (series R) (linear R nil) i) p in
      ap (λ (t : ℕ → F). product R t p (suc k)) (power_next (series R) (linear R nil) i)
      ∙ product_assoc R (linear R nil) (power (series R) (linear R nil) i) p (suc k)
      ∙ linear_next R nil rest k
      ∙ ap (λ t. rest k ⊕ t) (nil_multiple (rest (suc k)))
      ∙ plus_nil R (rest k)
      ∙ raised_is i p k
      ∙ sym (raised_next R i p k)

  -- a term that stands under a test
  tested_sum : (b : Bool) (x y w : F) → (if b then (x ⊕ y) ⊗ w else nil) ≡ (if b then x ⊗ w else nil) ⊕ (if b then y ⊗ w else nil)
  tested_sum true x y w = simp ring
  tested_sum false x y w = sym (R.plus_nil nil)

  -- the coefficients of Q(x, x y + g), column by column
  pub shift_is : (m d : ℕ) (q : Bivariate F) (g : F) (k h : ℕ) → IsWithin m d q
      → shift_of R q g k h ≡ raised R h (shifted (series R) d (column R q) (constant R g) h) k
  shift_is m d q g k h w =
      let row : ℕ → F = shifted (series R) d (column R q) (constant R g) h in
      let at : ℕ → F = λ i. sum_below R d (λ j. if i + h == k then coefficient R q i j ⊗ weight R g j h else nil) in
      let there : (i : ℕ) → i + h ≡ k → at i ≡ row i = λ i e.
      ap (λ b. sum_below R d (λ j. if b then coefficient R q i j ⊗ weight R g j h else nil)) (eq-eqb (i + h) k e) ∙ sym (row_is_sum R d (column R q) g h i) in
      let elsewhere : (i : ℕ) → i + h ≢ k → at i ≡ nil = λ i e.
      ap (λ b. sum_below R d (λ j. if b then coefficient R q i j ⊗ weight R g j h else nil)) (ne_eqb (i + h) k e) ∙ sum_nil R d in
      terms_sum R (λ i j c. if i + h == k then c ⊗ weight R g j h else nil) (λ i j x y. tested_sum (i + h == k) x y (weight R g j h)) m d q w
      ∙ elim (cases_lt k h) [
        | inl l ↦ sum_zero R m at (λ i _. elsewhere i (λ e. omega arith)) ∙ sym (raised_low R h row k l)
        | inr l ↦ elim (cases_lt (k - h) m) [
          | inl n ↦ sum_only R m (k - h) at n (λ i _ o. elsewhere i (λ e. o (omega arith))) ∙ there (k - h) (omega arith) ∙ sym (raised_high R h row k l)
          | inr n ↦
              sum_zero R m at (λ i o. elsewhere i (λ e. omega arith))
              ∙ sym (rows_below R m d (column R q) g (columns_below R m d q w) h (k - h) n)
              ∙ sym (raised_high R h row k l)
        ]
      ]

  -- a bound in y
  columns_end : (m d : ℕ) (q : Bivariate F) → IsWithin m d q → IsBelow (series R) d (column R q)
  unfolding series
  columns_end m d q w j l = fun_ext (λ i. coefficient_past R m d q w i j (inr l))

  composed_more : (d e : ℕ) (Q : ℕ → ℕ → F) (f : ℕ → F) → IsBelow (series R) d Q → d ≤ e → composed R e Q f ≡ composed R d Q f
  composed_more d e Q f b l = nested_more (series R) (series R) (λ t. t) (itself (series R)) d e Q f b l

  composed_stretched : (d : ℕ) (Q : ℕ → ℕ → F) (f : ℕ → F)
      → composed R d Q (product R (linear R nil) f) ≡ composed R d (λ j. product R (power (series R) (linear R nil) j) (Q j)) f
  unfolding series
  composed_stretched d Q f = nested_stretched (series R) d Q (linear R nil) f

  twice : (x y : F) → x ⊕ y ⊕ y ≡ x
  twice x y = simp ring

  pub shift_gives : (q shift : Bivariate F) (g : F) → ((i j : ℕ) → coefficient R shift i j ≡ shift_of R q g i j) → (f : ℕ → F) (k : ℕ)
      → substituted R shift f k ≡ substituted R q (λ i. product R (linear R nil) f i ⊕ constant R g i) k
  shift_gives q shift g each f k =
      let m : ℕ = greatest x_power q + 1 in
      let d : ℕ = greatest y_power q + 1 in
      let w : IsWithin m d q = within q in
      let n : ℕ = greatest x_power shift + 1 in
      let e : ℕ = greatest y_power shift + 1 in
      let v : IsWithin n e shift = within shift in
      let row : ℕ → ℕ → F = shifted (series R) d (column R q) (constant R g) in
      let columns : column R shift ≡ (λ j. product R (power (series R) (linear R nil) j) (row j)) =
      fun_ext (λ j. fun_ext (λ i. each i j ∙ shift_is m d q g i j w ∙ sym (raised_is j (row j) i))) in
      let whole : composed R e (column R shift) f ≡ composed R d (column R q) (λ i. product R (linear R nil) f i ⊕ constant R g i) =
      sym (composed_more e (d + e) (column R shift) f (columns_end n e shift v) (omega arith))
      ∙ ap (λ (Q : ℕ → ℕ → F). composed R (d + e) Q f) columns
      ∙ sym (composed_stretched (d + e) row f)
      ∙ composed_more d (d + e) row (product R (linear R nil) f) (shifted_below (series R) d (column R q) (constant R g)) (omega arith)
      ∙ ap (λ (t : ℕ → F). composed R d row t) (sym (fun_ext (λ i. twice (product R (linear R nil) f i) (constant R g i))))
      ∙ composed_about R d (column R q) (λ i. product R (linear R nil) f i ⊕ constant R g i) g in
      substituted_is R n e shift f k v
      ∙ ap (λ (t : ℕ → F). t k) whole
      ∙ sym (substituted_is R m d q (λ i. product R (linear R nil) f i ⊕ constant R g i) k w)
