-- Coefficients as rows, one for each power of y, each a list by the power of x, and the polynomial that they stand for.
-- Source: this project's own.
use Rattle.std.specs.Prelude.{◌≡◌, ◌≢◌, ℕ, suc, ◌<◌, ◌≤◌, ◌==◌, if◌then◌else◌, List, [], ◌∷◌, length, slice_index_or}
use Rattle.std.specs.FinMap.{from_entries}
use Rattle.algebra.specs.Ring.{Ring}
use Rattle.algebra.specs.Sums.{power, sum_below}
use Rattle.algebra.specs.Lists.{coefficients}
use Rattle.algebra.specs.Bivariate.{Bivariate, weight}

-- the row of y^j
abbrev pub row_at : {F : Type 0} → List (List F) → ℕ → List F
row_at rows j = slice_index_or rows j []

-- the coefficient of x^i y^j
abbrev pub cell : {F : Type 0} → Ring F → List (List F) → ℕ → ℕ → F
cell R rows i j = coefficients R (row_at rows j) i

module _ {F : Type 0} (number : F → ℕ) where
  -- the entries of a row, from the power i of x on, before others
  abbrev pub row_entries : ℕ → ℕ → List F → List ((ℕ × ℕ) × F) → List ((ℕ × ℕ) × F)
  row_entries j i [] others = others
  row_entries j i (c ∷ cs) others =
      if number c == 0 then row_entries j (suc i) cs others else ((i, j), c) ∷ row_entries j (suc i) cs others

  -- the coefficients that are not zero, row by row from the power j of y on
  abbrev pub entries_from : ℕ → List (List F) → List ((ℕ × ℕ) × F)
  entries_from j [] = []
  entries_from j (row ∷ rows) = row_entries j 0 row (entries_from (suc j) rows)

  -- the polynomial
  unfoldable pub polynomial_of : List (List F) → Bivariate F
  polynomial_of rows = from_entries (entries_from 0 rows)

-- no power of x from 65,536 on, and no power of y from 4,096 on
pub record AreLimited {F : Type 0} (R : Ring F) (rows : List (List F)) : Type 0 where
  pub x : (i j : ℕ) → 65536 ≤ i → cell R rows i j ≡ R.nil
  pub y : (i j : ℕ) → 4096 ≤ j → cell R rows i j ≡ R.nil

-- each of the first rows is long enough for the coefficients of the other row at its place that are not zero
abbrev pub HaveRoom : {F : Type 0} → Ring F → List (List F) → ℕ → List (List F) → Type 0
HaveRoom R others count rows = (i j : ℕ) → j < count → cell R others i j ≢ R.nil → i < length (row_at rows j)

-- the powers of g, from g^0 on
abbrev pub ArePowers : {F : Type 0} → Ring F → F → List F → Type 0
ArePowers R g powers = (k : ℕ) → k < length powers → coefficients R powers k ≡ power R g k

-- the Hasse derivative of order u at a of the polynomial in x with these first n coefficients
abbrev pub derivative_sum : {F : Type 0} → Ring F → ℕ → List F → ℕ → F → F
derivative_sum R n coefs u a = sum_below R n (λ i. R.times (coefficients R coefs i) (weight R a i u))
