-- The Hasse derivatives of a polynomial in two variables are its coefficients about a point.
use Rattle.std.proofs.Common.{◌≡◌, inl, inr, ℕ, zero, suc, sym, ◌∙◌, ap, ap₂}
use Rattle.algebra.specs.Ring.{Ring}
use Rattle.algebra.specs.Sums.{sum_below}
use Rattle.algebra.specs.Series.{constant, linear_power, IsBelow}
use Rattle.algebra.specs.Bivariate.{Bivariate, IsWithin, coefficient, weight, hasse_derivative}
use Rattle.algebra.proofs.RingLaws.{ring, nil_times}
use Rattle.algebra.proofs.Sums.{sum_same, sum_zero, sum_scaled, sum_exchange}
use Rattle.algebra.proofs.Series.{product_constant, series}
use Rattle.algebra.proofs.Shift.{shifted, shifted_none, shifted_first, shifted_next}
use Rattle.algebra.proofs.Weights.{shifted_is_sum}
use Rattle.algebra.proofs.Taylor.{expanded}
use Rattle.algebra.proofs.Entries.{terms_sum, coefficient_past}

-- the coefficient of y^j, which is a polynomial in x
abbrev pub column : {F : Type 0} → Ring F → Bivariate F → ℕ → ℕ → F
column R q j i = coefficient R q i j

module _ {F : Type 0} (R : Ring F) where
  infixl 60 ◌⊕◌
  infixl 70 ◌⊗◌
  open R use {nil, unit, plus as ◌⊕◌, times as ◌⊗◌}

  -- about b in y, for each power of x
  pub shifted_row : (d : ℕ) (Q : ℕ → ℕ → F) (b : F) (v i : ℕ) → shifted (series R) d Q (constant R b) v i ≡ shifted R d (λ j. Q j i) b v
  unfolding series
  shifted_row zero Q b v i = ap (λ (t : ℕ → F). t i) (shifted_none (series R) Q (constant R b) v) ∙ sym (shifted_none R (λ j. Q j i) b v)
  shifted_row (suc d) Q b zero i =
      ap (λ (t : ℕ → F). t i) (shifted_first (series R) d Q (constant R b))
      ∙ ap (λ t. Q 0 i ⊕ t) (product_constant R b (shifted (series R) d (λ j. Q (suc j)) (constant R b) 0) i)
      ∙ ap (λ t. Q 0 i ⊕ b ⊗ t) (shifted_row d (λ j. Q (suc j)) b 0 i)
      ∙ sym (shifted_first R d (λ j. Q j i) b)
  shifted_row (suc d) Q b (suc v) i =
      ap (λ (t : ℕ → F). t i) (shifted_next (series R) d Q (constant R b) v)
      ∙ ap₂ (λ (s t : F). s ⊕ t) (shifted_row d (λ j. Q (suc j)) b v i)
      (product_constant R b (shifted (series R) d (λ j. Q (suc j)) (constant R b) (suc v)) i
      ∙ ap (λ t. b ⊗ t) (shifted_row d (λ j. Q (suc j)) b (suc v) i))
      ∙ sym (shifted_next R d (λ j. Q j i) b v)

  -- a row about b, by weights
  pub row_is_sum : (d : ℕ) (Q : ℕ → ℕ → F) (b : F) (v i : ℕ) → shifted (series R) d Q (constant R b) v i ≡ sum_below R d (λ j. Q j i ⊗ weight R b j v)
  row_is_sum d Q b v i = shifted_row d Q b v i ∙ shifted_is_sum R d (λ j. Q j i) b v

  -- which is below the bound of the columns
  pub rows_below : (m d : ℕ) (Q : ℕ → ℕ → F) (b : F) → ((j : ℕ) → IsBelow R m (Q j)) → (v : ℕ) → IsBelow R m (shifted (series R) d Q (constant R b) v)
  rows_below m d Q b below v k l =
      row_is_sum d Q b v k
      ∙ sum_zero R d (λ j. Q j k ⊗ weight R b j v) (λ j _. ap (λ t. t ⊗ weight R b j v) (below j k l) ∙ nil_times R (weight R b j v))

  pub columns_below : (m d : ℕ) (q : Bivariate F) → IsWithin m d q → (j : ℕ) → IsBelow R m (column R q j)
  columns_below m d q w j i l = coefficient_past R m d q w i j (inl l)

  -- the coefficient at u and v of Q(x + a, y + b)
  abbrev pub shifted_both : (m d : ℕ) → (ℕ → ℕ → F) → F → F → ℕ → ℕ → F
  shifted_both m d Q a b u v = shifted R m (shifted (series R) d Q (constant R b) v) a u

  pub derivative_is : (m d : ℕ) (q : Bivariate F) (a b : F) (u v : ℕ) → IsWithin m d q
      → hasse_derivative R q u v a b ≡ shifted_both m d (column R q) a b u v
  derivative_is m d q a b u v w =
      let term : (i j : ℕ) → coefficient R q i j ⊗ weight R a i u ⊗ weight R b j v ≡ weight R a i u ⊗ (coefficient R q i j ⊗ weight R b j v) = λ i j. simp ring in
      let each : (i : ℕ) → sum_below R d (λ j. coefficient R q i j ⊗ weight R a i u ⊗ weight R b j v) ≡ shifted (series R) d (column R q) (constant R b) v i ⊗ weight R a i u = λ i.
      sum_same R d (λ j. coefficient R q i j ⊗ weight R a i u ⊗ weight R b j v) (λ j. weight R a i u ⊗ (coefficient R q i j ⊗ weight R b j v)) (λ j _. term i j)
      ∙ sum_scaled R d (weight R a i u) (λ j. coefficient R q i j ⊗ weight R b j v)
      ∙ R.times_comm (weight R a i u) (sum_below R d (λ j. coefficient R q i j ⊗ weight R b j v))
      ∙ ap (λ t. t ⊗ weight R a i u) (sym (row_is_sum d (column R q) b v i)) in
      terms_sum R (λ i j c. c ⊗ weight R a i u ⊗ weight R b j v) (λ i j x y. simp ring) m d q w
      ∙ sum_same R m (λ i. sum_below R d (λ j. coefficient R q i j ⊗ weight R a i u ⊗ weight R b j v)) (λ i. shifted (series R) d (column R q) (constant R b) v i ⊗ weight R a i u) (λ i _. each i)
      ∙ sym (shifted_is_sum R m (shifted (series R) d (column R q) (constant R b) v) a u)

  -- a polynomial is the sum of its derivatives times powers of x + a and y + b
  pub expansion : (m d : ℕ) (q : Bivariate F) (a b : F) → IsWithin m d q → (i j : ℕ)
      → coefficient R q i j ≡ sum_below R m (λ u. sum_below R d (λ v. hasse_derivative R q u v a b ⊗ (linear_power R a u i ⊗ linear_power R b v j)))
  expansion m d q a b w i j =
      let row : ℕ → ℕ → F = shifted (series R) d (column R q) (constant R b) in
      let each : (v : ℕ) → shifted R d (λ t. coefficient R q i t) b v ⊗ linear_power R b v j
      ≡ sum_below R m (λ u. hasse_derivative R q u v a b ⊗ (linear_power R a u i ⊗ linear_power R b v j)) = λ v.
      ap (λ t. t ⊗ linear_power R b v j) (sym (shifted_row d (column R q) b v i) ∙ expanded R m (row v) a i (rows_below m d (column R q) b (columns_below m d q w) v))
      ∙ R.times_comm (sum_below R m (λ u. shifted R m (row v) a u ⊗ linear_power R a u i)) (linear_power R b v j)
      ∙ sym (sum_scaled R m (linear_power R b v j) (λ u. shifted R m (row v) a u ⊗ linear_power R a u i))
      ∙ sum_same R m (λ u. linear_power R b v j ⊗ (shifted R m (row v) a u ⊗ linear_power R a u i)) (λ u. hasse_derivative R q u v a b ⊗ (linear_power R a u i ⊗ linear_power R b v j))
      (λ u _. turned (linear_power R b v j) (shifted R m (row v) a u) (linear_power R a u i) ∙ ap (λ t. t ⊗ (linear_power R a u i ⊗ linear_power R b v j)) (sym (derivative_is m d q a b u v w))) in
      expanded R d (λ t. coefficient R q i t) b j (λ t l. coefficient_past R m d q w i t (inr l))
      ∙ sum_same R d (λ v. shifted R d (λ t. coefficient R q i t) b v ⊗ linear_power R b v j)
      (λ v. sum_below R m (λ u. hasse_derivative R q u v a b ⊗ (linear_power R a u i ⊗ linear_power R b v j))) (λ v _. each v)
      ∙ sum_exchange R d m (λ v u. hasse_derivative R q u v a b ⊗ (linear_power R a u i ⊗ linear_power R b v j))
    where
      turned : (x y z : F) → x ⊗ (y ⊗ z) ≡ y ⊗ (z ⊗ x)
      turned x y z = simp ring
