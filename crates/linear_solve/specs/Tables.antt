-- Matrices as lists of rows.
-- Source: this project's own.
use Rattle.std.specs.Prelude.{◌≡◌, ℕ, ◌*◌, ◌<◌, ◌≤◌, List, [], length, slice_index_or}
use Rattle.std.specs.Simd.Lanes.{zip2}
use Rattle.algebra.specs.Ring.{Ring}
use Rattle.algebra.specs.Lists.{coefficients}

-- the entries row by row, and how many columns there are
pub record Table (F : Type 0) : Type 0 where
  pub columns : ℕ
  pub rows : List (List F)

-- each row has this many entries
abbrev pub HaveLength : {F : Type 0} → ℕ → List (List F) → Type 0
HaveLength n rows = (i : ℕ) → i < length rows → length (slice_index_or rows i []) ≡ n

-- what every matrix meets
pub record IsTable {F : Type 0} (table : Table F) : Type 0 where
  pub some_rows : 1 ≤ length table.rows
  pub some_columns : 1 ≤ table.columns
  pub few : length table.rows * table.columns ≤ 150000000
  pub even : HaveLength table.columns table.rows

-- the entry in a row and a column, zero outside
abbrev pub entries : {F : Type 0} → Ring F → List (List F) → ℕ → ℕ → F
entries R rows i = coefficients R (slice_index_or rows i [])

-- a row, cleared in one column: `inverse` times the entry there is the multiple of the pivot row that is added
abbrev pub cleared : {F : Type 0} → Ring F → List F → ℕ → F → List F → List F
cleared R pivot column inverse row = zip2 (λ x y. R.plus x (R.times (R.times (coefficients R row column) inverse) y)) row pivot
