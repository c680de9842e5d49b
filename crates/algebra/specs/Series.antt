-- Power series in one variable, each as the function from an exponent to the coefficient there. A polynomial is a series with a bound from which on every coefficient is zero.
-- Source: any text on algebra.
use Rattle.std.specs.Prelude.{◌≡◌, ℕ, zero, suc, ◌<◌, ◌≤◌}
use Rattle.algebra.specs.Ring.{Ring}
use Rattle.algebra.specs.Sums.{sum_below, power}

module _ {F : Type 0} (R : Ring F) where
  infixl 60 ◌⊕◌
  infixl 70 ◌⊗◌
  open R use {nil, unit, plus as ◌⊕◌, times as ◌⊗◌}

  -- the product: at n the sum of p i times q (n - i) over all i up to n
  unfoldable pub product : (ℕ → F) → (ℕ → F) → ℕ → F
  product p q zero = p 0 ⊗ q 0
  product p q (suc n) = product (λ k. p (suc k)) q n ⊕ p 0 ⊗ q (suc n)

  -- the polynomial that is c for every x
  abbrev pub constant : F → ℕ → F
  constant c zero = c
  constant c (suc n) = nil

  -- the polynomial x + a
  abbrev pub linear : F → ℕ → F
  linear a zero = a
  linear a (suc n) = constant unit n

  -- the polynomial (x + a)^s
  unfoldable pub linear_power : F → ℕ → ℕ → F
  linear_power a zero = constant unit
  linear_power a (suc s) = product (linear a) (linear_power a s)

  -- all coefficients from d on are zero
  abbrev pub IsBelow : ℕ → (ℕ → F) → Type 0
  IsBelow d p = (k : ℕ) → d ≤ k → p k ≡ nil

  -- all coefficients before s are zero
  abbrev pub IsFrom : ℕ → (ℕ → F) → Type 0
  IsFrom s p = (k : ℕ) → k < s → p k ≡ nil

  -- the value at x of the polynomial with the coefficients p 0 to p (d - 1)
  abbrev pub value : ℕ → (ℕ → F) → F → F
  value d p x = sum_below R d (λ i. p i ⊗ power R x i)
