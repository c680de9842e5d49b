-- The list of all roots of a polynomial.
-- Source: this project's own.
use Rattle.std.specs.Prelude.{◌≡◌, ℕ, ◌<◌, List, length}
use Rattle.algebra.specs.Ring.{Ring}
use Rattle.algebra.specs.Series.{value}
use Rattle.algebra.specs.Lists.{coefficients}

-- the polynomial's value at x is zero
abbrev pub IsRoot : {F : Type 0} → Ring F → List F → F → Type 0
IsRoot R polynomial x = value R (length polynomial) (coefficients R polynomial) x ≡ R.nil

-- the roots and nothing else, each once, in ascending order of their numbers
pub record IsRootList {F : Type 0} (R : Ring F) (number : F → ℕ) (polynomial roots : List F) : Type 0 where
  pub only : (i : ℕ) → i < length roots → IsRoot R polynomial (coefficients R roots i)
  pub every : (x : F) → IsRoot R polynomial x → (i : ℕ) × (i < length roots) × (coefficients R roots i ≡ x)
  pub ascending : (i j : ℕ) → i < j → j < length roots → number (coefficients R roots i) < number (coefficients R roots j)
