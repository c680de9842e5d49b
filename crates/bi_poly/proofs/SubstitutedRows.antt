-- Polynomials put in place of y, row by row.
use Rattle.std.proofs.Common.{◌≡◌, ℕ, suc, ◌<◌, ◌≤◌, List, [], length, sym, ◌∙◌, ap, ap₂, arith}
use Rattle.std.proofs.lemmas.List.{get_or_past}
use mathlib.Core.Path.{fun_ext}
use Rattle.algebra.specs.Ring.{Ring}
use Rattle.algebra.specs.Series.{product}
use Rattle.algebra.specs.Lists.{coefficients, IsListOf}
use Rattle.algebra.specs.Bivariate.{Bivariate, substituted}
use Rattle.algebra.proofs.Series.{series}
use Rattle.algebra.proofs.Nested.{nested}
use Rattle.algebra.proofs.Derivatives.{column}
use Rattle.algebra.proofs.Substitution.{substituted_is}
use Rattle.algebra.proofs.Horner.{nested_from, nested_from-end, nested_from-step, nested_from-front}
use Rattle.bi_poly.specs.Rows.{cell, polynomial_of}
use Rattle.bi_poly.proofs.RowDerivatives.{coefficient_is, rows_within}

module _ {F : Type 0} (R : Ring F) where
  infixl 60 ◌⊕◌
  infixl 70 ◌⊗◌
  open R use {nil, unit, plus as ◌⊕◌, times as ◌⊗◌}

  -- there are no coefficients past the last row
  pub cell_past : (rows : List (List F)) (i j : ℕ) → length rows ≤ j → cell R rows i j ≡ nil
  cell_past rows i j l = ap (λ t. coefficients R t i) (get_or_past rows j [] l)

  -- a list of coefficients that are equal to others
  pub list_same : (p r : ℕ → F) (list : List F) → ((k : ℕ) → p k ≡ r k) → IsListOf R p list → IsListOf R r list
  list_same p r list h is = record { each = λ k. is.each k ∙ h k; trimmed = is.trimmed }

  -- the polynomial in x whose list of coefficients stands with y^j
  abbrev pub row_series : List (List F) → ℕ → ℕ → F
  row_series rows j i = cell R rows i j

  module _ (rows : List (List F)) (f : ℕ → F) where
    -- the rows from j on, with f in place of y
    pub substituted_from : ℕ → ℕ → F
    substituted_from = nested_from (series R) (length rows) (row_series rows) f

    -- no row yet
    pub no_rows_substituted : (list : List F) → IsListOf R (coefficients R []) list → IsListOf R (substituted_from (length rows)) list
    unfolding substituted_from series
    no_rows_substituted list is =
        list_same (coefficients R []) (substituted_from (length rows)) list
        (λ k. ap (λ (t : ℕ → F). t k) (sym (nested_from-end (series R) (length rows) (row_series rows) f (length rows) (omega arith)))) is

    -- one row more
    pub row_substituted : (j : ℕ) (old multiple row sum : List F) → j < length rows → IsListOf R (substituted_from (suc j)) old
        → IsListOf R (product R (coefficients R old) f) multiple → IsListOf R (row_series rows j) row
        → IsListOf R (λ k. coefficients R multiple k ⊕ coefficients R row k) sum → IsListOf R (substituted_from j) sum
    unfolding substituted_from series
    row_substituted j old multiple row sum l is_old is_multiple is_row is_sum =
        list_same (λ k. coefficients R multiple k ⊕ coefficients R row k) (substituted_from j) sum
        (λ k.
        ap₂ (λ (s t : F). s ⊕ t) (is_multiple.each k ∙ ap (λ (t : ℕ → F). product R t f k) (fun_ext is_old.each)) (is_row.each k)
        ∙ ap (λ (t : ℕ → F). t k) (sym (nested_from-step (series R) (length rows) (row_series rows) f j l)))
        is_sum

    -- all rows
    pub all_substituted : (number : F → ℕ) (nil_is : number R.nil ≡ 0) (same : (x y : F) → number x ≡ number y → x ≡ y) (q : Bivariate F) → polynomial_of number rows ≡ q
        → (m : ℕ) → ((i j : ℕ) → m ≤ i → cell R rows i j ≡ nil) → (list : List F) → IsListOf R (substituted_from 0) list → IsListOf R (substituted R q f) list
    unfolding substituted_from
    all_substituted number nil_is same q e m x list is =
        let columns : row_series rows ≡ column R q = fun_ext (λ j. fun_ext (λ i. sym (coefficient_is R number nil_is same rows q e i j))) in
        list_same (substituted_from 0) (substituted R q f) list
        (λ k.
        ap (λ (t : ℕ → F). t k) (nested_from-front (series R) (length rows) (row_series rows) f)
        ∙ ap (λ (Q : ℕ → ℕ → F). nested (series R) (λ t. t) (length rows) Q f k) columns
        ∙ sym (substituted_is R m (length rows) q f k (rows_within R number nil_is same rows q e m (length rows) x (cell_past rows))))
        is
