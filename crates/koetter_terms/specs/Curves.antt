-- Polynomials in x and y as lists of coefficients in the order of their terms: by the weight of x^i y^j, which is i + w j, and then by the power of y.
-- Source: R. Koetter's interpolation, as in R. McEliece, The Guruswami-Sudan decoding algorithm for Reed-Solomon codes (2003). The lists are this project's own.
use Rattle.std.specs.Prelude.{◌≡◌, ℕ, suc, ◌+◌, ◌*◌, ◌<◌, ◌≤◌, List, length, slice_index_or}
use Rattle.algebra.specs.Lists.{coefficients}
use Rattle.algebra.specs.Ring.{Ring}
use Rattle.decoding_terms.specs.Parameters.{term_count}
use Rattle.term_lists.specs.Places.{place}
use Rattle.koetter_terms.specs.Derivatives.{derivative_at}

-- at the place of each term that weighs less than e, the place of that term divided by x, and a number past all places where x does not divide it
pub record AreQuotients (w e : ℕ) (quotients : List ℕ) : Type 0 where
  pub count : length quotients ≡ term_count w e
  pub divided : (i j : ℕ) → suc i + w * j < e → slice_index_or quotients (place w (suc i) j) 0 ≡ place w i j
  pub others : (j : ℕ) → w * j < e → term_count w e ≤ slice_index_or quotients (place w 0 j) 0

module _ {F : Type 0} (R : Ring F) where
  -- the coefficient of x^i y^j
  abbrev pub curve : ℕ → List F → ℕ → ℕ → F
  curve w coefs i j = coefficients R coefs (place w i j)

  -- the list with the factor times the other
  abbrev pub IsSum : F → List F → List F → List F → Type 0
  IsSum factor other old new = (k : ℕ) → coefficients R new k ≡ R.plus (coefficients R old k) (R.times factor (coefficients R other k))

  -- x times the list and the factor times the list, up to the terms that weigh less than e
  abbrev pub IsRaised : List ℕ → F → List F → List F → Type 0
  IsRaised quotients factor old new = (k : ℕ) → k < length quotients
      → coefficients R new k ≡ R.plus (coefficients R old (slice_index_or quotients k 0)) (R.times factor (coefficients R old k))

  -- no term stands after x^a y^j
  abbrev pub EndsAt : (w a j : ℕ) → List F → Type 0
  EndsAt w a j coefs = (k : ℕ) → place w a j < k → coefficients R coefs k ≡ R.nil

  -- all derivatives of order (u, v) with u + v below s of the polynomial q at (a, b), in order as x^u y^v stand where y weighs 1
  abbrev pub IsTile : (m n s : ℕ) → (ℕ → ℕ → F) → F → F → List F → Type 0
  IsTile m n s q a b tile = (u v : ℕ) → u + v < s → curve 1 tile u v ≡ derivative_at R m n q a b u v
