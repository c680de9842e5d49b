-- What elimination leaves: rows that were taken out one after the other, each with a column in which the rows that were left then are zero.
-- Source: this project's own; the form is the row echelon form of any text on linear algebra, with its rows in another order.
use Rattle.std.specs.Prelude.{◌≡◌, ℕ, ◌<◌, List, map, length, set, slice_index, slice_index_or}
use Rattle.algebra.specs.Ring.{Ring}
use Rattle.algebra.specs.Lists.{coefficients}
use Rattle.system_terms.specs.Systems.{Solves, row_times}
use Rattle.linear_solve.specs.Tables.{entries, HaveLength}
use Rattle.linear_solve.specs.declared.pivot.Pivot.{Pivot}

abbrev pub rows_of : {F : Type 0} → List (Pivot F) → List (List F)
rows_of pivots = map (λ p. p.row.items) pivots

abbrev pub columns_of : {F : Type 0} → List (Pivot F) → List ℕ
columns_of pivots = map (λ p. p.column) pivots

abbrev pub inverses_of : {F : Type 0} → List (Pivot F) → List F
inverses_of pivots = map (λ p. p.inverse) pivots

pub record ArePivots {F : Type 0} (R : Ring F) (n : ℕ) (pivots : List (Pivot F)) : Type 0 where
  pub even : HaveLength n (rows_of pivots)
  pub inside : (j : ℕ) → j < length pivots → slice_index (columns_of pivots) j < n
  pub inverse : (j : ℕ) → j < length pivots
      → R.times (entries R (rows_of pivots) j (slice_index (columns_of pivots) j)) (slice_index_or (inverses_of pivots) j R.nil) ≡ R.unit
  -- a later pivot's row is zero in an earlier one's column
  pub later : (i j : ℕ) → j < i → i < length pivots → entries R (rows_of pivots) i (slice_index (columns_of pivots) j) ≡ R.nil

-- the same vectors solve the rows that were, and those that are left with the pivots' rows
pub record HaveSameSolutions {F : Type 0} (R : Ring F) (n : ℕ) (rows left : List (List F)) (pivots : List (Pivot F)) : Type 0 where
  pub there : (x : ℕ → F) → Solves R (length rows) n (entries R rows) x
      → Solves R (length left) n (entries R left) x × Solves R (length pivots) n (entries R (rows_of pivots)) x
  pub back : (x : ℕ → F) → Solves R (length left) n (entries R left) x → Solves R (length pivots) n (entries R (rows_of pivots)) x
      → Solves R (length rows) n (entries R rows) x

-- the vector, changed in the pivot's column so that the pivot's row sends it to zero
abbrev pub settled : {F : Type 0} → Ring F → Pivot F → List F → List F
settled R pivot vector =
    set vector pivot.column (R.plus (coefficients R vector pivot.column)
    (R.times (row_times R (length pivot.row.items) (coefficients R pivot.row.items) (coefficients R vector)) pivot.inverse))
