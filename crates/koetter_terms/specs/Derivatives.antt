-- Hasse derivatives of polynomials that are given by their coefficients.
-- Source: Guruswami and Sudan (1999), in characteristic two.
use Rattle.std.specs.Prelude.{ℕ}
use Rattle.algebra.specs.Bivariate.{weight}
use Rattle.algebra.specs.Ring.{Ring}
use Rattle.algebra.specs.Series.{linear, product}
use Rattle.algebra.specs.Sums.{sum_below}

module _ {F : Type 0} (R : Ring F) where
  -- the derivative of order u at a of the polynomial in x with the coefficients p 0 to p (m - 1)
  unfoldable pub derivative : ℕ → (ℕ → F) → F → ℕ → F
  derivative m p a u = sum_below R m (λ i. R.times (p i) (weight R a i u))

  -- the derivative of order (u, v) at (a, b) of the polynomial with the coefficient q i j beside x^i y^j, where i is below m and j below n
  abbrev pub derivative_at : ℕ → ℕ → (ℕ → ℕ → F) → F → F → ℕ → ℕ → F
  derivative_at m n q a b u v = derivative n (λ j. derivative m (λ i. q i j) a u) b v

  -- the coefficients of q + factor · p
  abbrev pub plus_multiple : (ℕ → ℕ → F) → F → (ℕ → ℕ → F) → ℕ → ℕ → F
  plus_multiple q factor p i j = R.plus (q i j) (R.times factor (p i j))

  -- the coefficients of (x + a) q
  abbrev pub times_linear : F → (ℕ → ℕ → F) → ℕ → ℕ → F
  times_linear a q i j = product R (linear R a) (λ h. q h j) i
