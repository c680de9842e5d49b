-- The linear system of a curve: one row for each point and order of a derivative, one column for each term.
-- Source: V. Guruswami and M. Sudan, Improved decoding of Reed-Solomon and algebraic-geometry codes, IEEE Transactions on Information Theory 45 (1999).
use Rattle.std.specs.Prelude.{◌≡◌, ℕ, ◌+◌, ◌*◌, ◌<◌, List, [], length, slice_index_or}
use Rattle.linear_solve.specs.Tables.{entries}
use Rattle.system_terms.specs.Systems.{IsZero, Solves}
use Rattle.algebra.specs.Lists.{coefficients}
use Rattle.algebra.specs.Ring.{Ring}
use Rattle.term_lists.specs.declared.exponents.Exponents.{Exponents}
use Rattle.term_lists.specs.Places.{exponents_at}
use Rattle.term_lists.specs.Polynomials.{term_derivative}

module _ {F : Type 0} (R : Ring F) where
  abbrev pub point_at : List (F × F) → ℕ → F × F
  point_at points p = slice_index_or points p (R.nil, R.nil)

  -- the row that says that the derivative of this order is zero at (a, b)
  pub record IsEquation (terms : List Exponents) (a b : F) (order : Exponents) (row : List F) : Type 0 where
    pub count : length row ≡ length terms
    pub each : (k : ℕ) → k < length terms → coefficients R row k ≡ term_derivative R a b order.x order.y (exponents_at terms k)

  -- the rows of the first n points, for each point one row an order
  pub record HaveEquations (terms orders : List Exponents) (points : List (F × F)) (n : ℕ) (rows : List (List F)) : Type 0 where
    pub count : length rows ≡ n * length orders
    pub each : (p o : ℕ) → p < n → o < length orders
        → IsEquation terms (point_at points p).0 (point_at points p).1 (exponents_at orders o) (slice_index_or rows (p * length orders + o) [])

  -- a vector that is not zero and that the rows of all points send to zero
  pub record IsSolution (terms orders : List Exponents) (points : List (F × F)) (vector : List F) : Type 0 where
    pub rows : List (List F)
    pub are : HaveEquations terms orders points (length points) rows
    pub count : length vector ≡ length terms
    pub solves : Solves R (length rows) (length terms) (entries R rows) (coefficients R vector)
    pub nonzero : IsZero R (length terms) (coefficients R vector) → ⊥
