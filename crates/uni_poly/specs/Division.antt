-- Division by x + a with a rest.
-- Source: any text on algebra.
use Rattle.std.specs.Prelude.{◌≡◌, ℕ, List}
use Rattle.algebra.specs.Ring.{Ring}
use Rattle.algebra.specs.Series.{product, constant, linear}
use Rattle.algebra.specs.Lists.{coefficients, IsTrimmed}

-- the polynomial is the quotient times x + a, and the rest; the quotient's list does not end with zero
pub record IsDivision {F : Type 0} (R : Ring F) (polynomial : List F) (a : F) (quotient : List F) (rest : F) : Type 0 where
  pub whole : (k : ℕ) → coefficients R polynomial k ≡ R.plus (product R (linear R a) (coefficients R quotient) k) (constant R rest k)
  pub trimmed : IsTrimmed R quotient
