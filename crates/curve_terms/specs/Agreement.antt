-- Polynomials that go through many of some points.
-- Source: this project's own.
use Rattle.std.specs.Prelude.{◌≡◌, ℕ, ◌<◌}
use Rattle.algebra.specs.Ring.{Ring}
use Rattle.algebra.specs.Roots.{AreDifferent}
use Rattle.algebra.specs.Series.{value}

-- f, which has n coefficients, goes through t different ones of the first r points
pub record GoesThrough {F : Type 0} (R : Ring F) (n : ℕ) (f : ℕ → F) (r : ℕ) (points : ℕ → F × F) (t : ℕ) : Type 0 where
  pub chosen : ℕ → ℕ
  pub inside : (i : ℕ) → i < t → chosen i < r
  pub different : AreDifferent t chosen
  pub through : (i : ℕ) → i < t → value R n f (points (chosen i)).0 ≡ (points (chosen i)).1
