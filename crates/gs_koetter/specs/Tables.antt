-- A curve's coefficients as a table, and its derivatives.
-- Source: this project's own.
use Rattle.std.specs.Prelude.{◌≡◌, ℕ, ◌+◌, ◌*◌, ◌^◌, ◌<◌, List, length, slice_index_or}
use Rattle.algebra.specs.Lists.{coefficients}
use Rattle.algebra.specs.Ring.{Ring}
use Rattle.algebra.specs.Sums.{power}
use Rattle.term_lists.specs.declared.exponents.Exponents.{Exponents}
use Rattle.term_lists.specs.Places.{exponents_at}

-- in a list of places, row by row where there are so many columns to a row, the places of a table that is turned: of the entry in row u and column j, which comes to row j and column u
pub record AreTurns (width side : ℕ) (turns : List ℕ) : Type 0 where
  pub count : length turns ≡ width * side
  pub each : (j u : ℕ) → j < width → u < side → slice_index_or turns (j * side + u) 0 ≡ u * width + j

-- at each term's place the place of its coefficient in a table with a row for each power of x and so many columns, one for each power of y
pub record AreCells (width : ℕ) (terms : List Exponents) (cells : List ℕ) : Type 0 where
  pub count : length cells ≡ length terms
  pub each : (k : ℕ) → k < length terms → slice_index_or cells k 0 ≡ (exponents_at terms k).x * width + (exponents_at terms k).y

module _ {F : Type 0} (R : Ring F) where
  -- what stands in row i and column j, where there are so many columns
  abbrev pub entry : ℕ → List F → ℕ → ℕ → F
  entry width table i j = coefficients R table (i * width + j)

  -- the powers a, a^2, a^4 and so on
  abbrev pub AreSquares : F → List F → Type 0
  AreSquares a squares = (k : ℕ) → k < length squares → coefficients R squares k ≡ power R a (2 ^ k)
