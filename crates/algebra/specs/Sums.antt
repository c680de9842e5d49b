-- Sums over the numbers below a bound, and powers of an element.
-- Source: any text on algebra. The power with exponent 0 is one, also for zero.
use Rattle.std.specs.Prelude.{ℕ, zero, suc}
use Rattle.algebra.specs.Ring.{Ring}

module _ {F : Type 0} (R : Ring F) where
  -- the sum of f i over all i below n
  unfoldable pub sum_below : ℕ → (ℕ → F) → F
  sum_below zero f = R.nil
  sum_below (suc n) f = R.plus (f 0) (sum_below n (λ i. f (suc i)))

  -- x times itself, n factors
  unfoldable pub power : F → ℕ → F
  power x zero = R.unit
  power x (suc n) = R.times x (power x n)
