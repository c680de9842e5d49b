-- From a list of coefficients to the polynomial that algebra speaks of.
-- Source: this project's own.
use Rattle.std.specs.Prelude.{◌≡◌, ◌≢◌, ℕ, ◌+◌, List, length, slice_index_or}
use Rattle.algebra.specs.Ring.{Ring}

module _ {F : Type 0} (R : Ring F) where
  -- the coefficient of each power, the lowest first, and zero past the end of the list
  abbrev pub coefficients : List F → ℕ → F
  coefficients list k = slice_index_or list k R.nil

  -- the last of the coefficients is not zero
  abbrev pub IsTrimmed : List F → Type 0
  IsTrimmed list = (k : ℕ) → length list ≡ k + 1 → coefficients list k ≢ R.nil

  -- the list of the coefficients of p, which ends where p ends
  pub record IsListOf (p : ℕ → F) (list : List F) : Type 0 where
    pub each : (k : ℕ) → coefficients list k ≡ p k
    pub trimmed : IsTrimmed list
