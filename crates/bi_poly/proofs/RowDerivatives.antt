-- Hasse derivatives, row by row.
use Rattle.std.proofs.Common.{◌≡◌, ◌≢◌, inl, inr, ℕ, ◌≤◌, None, List, length, sym, ◌∙◌, ap}
use Rattle.std.specs.FinMap.{get}
use Rattle.std.proofs.lemmas.Bool.{cases_lt}
use Rattle.algebra.specs.Ring.{Ring}
use Rattle.algebra.specs.Sums.{sum_below}
use Rattle.algebra.specs.Series.{IsBelow}
use Rattle.algebra.specs.Lists.{coefficients, IsListOf}
use Rattle.algebra.specs.Bivariate.{Bivariate, IsWithin, coefficient, weight, hasse_derivative}
use Rattle.algebra.proofs.RingLaws.{ring, nil_times}
use Rattle.algebra.proofs.Sums.{sum_same, sum_scaled, sum_exchange, sum_more}
use Rattle.algebra.proofs.CoefficientLists.{coefficients_below, trimmed_length}
use Rattle.algebra.proofs.Entries.{terms_sum}
use Rattle.bi_poly.specs.Rows.{cell, polynomial_of}
use Rattle.bi_poly.proofs.Cells.{coefficient_cell, nonzero_get}

module _ {F : Type 0} (R : Ring F) where
  infixl 60 ◌⊕◌
  infixl 70 ◌⊗◌
  open R use {nil, unit, plus as ◌⊕◌, times as ◌⊗◌}

  -- the list without zeros at its end gives the same sum
  pub sum_trimmed : (p w : ℕ → F) (list : List F) (n : ℕ) → IsListOf R p list → IsBelow R n p
      → sum_below R (length list) (λ i. coefficients R list i ⊗ w i) ≡ sum_below R n (λ i. p i ⊗ w i)
  sum_trimmed p w list n is b =
      let few : length list ≤ n = trimmed_length R n list is.trimmed (λ k l. is.each k ∙ b k l) in
      sum_more R (length list) n (λ i. coefficients R list i ⊗ w i) few (λ i l. ap (λ t. t ⊗ w i) (coefficients_below R list i l) ∙ nil_times R (w i))
      ∙ sum_same R n (λ i. coefficients R list i ⊗ w i) (λ i. p i ⊗ w i) (λ i _. ap (λ t. t ⊗ w i) (is.each i))

  -- the derivative of the row of y^j, whose powers of x are below m
  abbrev pub row_derivative : List (List F) → ℕ → F → ℕ → ℕ → F
  row_derivative rows m a u j = sum_below R m (λ i. cell R rows i j ⊗ weight R a i u)

-- the polynomial q that rows stand for
module _ {F : Type 0} (R : Ring F) (number : F → ℕ) (nil_is : number R.nil ≡ 0) (same : (x y : F) → number x ≡ number y → x ≡ y)
    (rows : List (List F)) (q : Bivariate F) (e : polynomial_of number rows ≡ q) where
  infixl 60 ◌⊕◌
  infixl 70 ◌⊗◌
  open R use {nil, unit, plus as ◌⊕◌, times as ◌⊗◌}

  pub coefficient_is : (i j : ℕ) → coefficient R q i j ≡ cell R rows i j
  coefficient_is i j = ap (λ (t : Bivariate F). coefficient R t i j) (sym e) ∙ coefficient_cell R number nil_is same rows i j

  standing_nonzero : (i j : ℕ) → get q (i, j) ≢ None → cell R rows i j ≢ nil
  standing_nonzero i j n = nonzero_get R number nil_is same rows i j (λ g. n (ap (λ (t : Bivariate F). get t (i, j)) (sym e) ∙ g))

  -- bounds of the coefficients are bounds of the polynomial
  pub rows_within : (m d : ℕ) → ((i j : ℕ) → m ≤ i → cell R rows i j ≡ nil) → ((i j : ℕ) → d ≤ j → cell R rows i j ≡ nil) → IsWithin m d q
  rows_within m d x y i j n = (
    elim (cases_lt i m) [ inl l ↦ l | inr l ↦ absurd (standing_nonzero i j n (x i j l)) ],
    elim (cases_lt j d) [ inl l ↦ l | inr l ↦ absurd (standing_nonzero i j n (y i j l)) ],
  )

  -- the derivative as a sum over rows
  pub derivative_rows : (m d u v : ℕ) (a b : F) → ((i j : ℕ) → m ≤ i → cell R rows i j ≡ nil) → ((i j : ℕ) → d ≤ j → cell R rows i j ≡ nil)
      → hasse_derivative R q u v a b ≡ sum_below R d (λ j. row_derivative R rows m a u j ⊗ weight R b j v)
  derivative_rows m d u v a b x y =
      let term : (i j : ℕ) → coefficient R q i j ⊗ weight R a i u ⊗ weight R b j v ≡ weight R b j v ⊗ (cell R rows i j ⊗ weight R a i u) = λ i j.
      ap (λ t. t ⊗ weight R a i u ⊗ weight R b j v) (coefficient_is i j) ∙ R.times_comm (cell R rows i j ⊗ weight R a i u) (weight R b j v) in
      let each : (j : ℕ) → sum_below R m (λ i. coefficient R q i j ⊗ weight R a i u ⊗ weight R b j v) ≡ row_derivative R rows m a u j ⊗ weight R b j v = λ j.
      sum_same R m (λ i. coefficient R q i j ⊗ weight R a i u ⊗ weight R b j v) (λ i. weight R b j v ⊗ (cell R rows i j ⊗ weight R a i u)) (λ i _. term i j)
      ∙ sum_scaled R m (weight R b j v) (λ i. cell R rows i j ⊗ weight R a i u)
      ∙ R.times_comm (weight R b j v) (row_derivative R rows m a u j) in
      terms_sum R (λ i j c. c ⊗ weight R a i u ⊗ weight R b j v) (λ i j s t. simp ring) m d q (rows_within m d x y)
      ∙ sum_exchange R m d (λ i j. coefficient R q i j ⊗ weight R a i u ⊗ weight R b j v)
      ∙ sum_same R d (λ j. sum_below R m (λ i. coefficient R q i j ⊗ weight R a i u ⊗ weight R b j v)) (λ j. row_derivative R rows m a u j ⊗ weight R b j v) (λ j _. each j)
