-- What the calls give, as finite maps, and how many products they may take.
-- Source: this project's own.
use Rattle.std.specs.Prelude.{◌≡◌, ◌≢◌, ℕ, ◌+◌, ◌*◌, ◌≤◌, ◌==◌, if◌then◌else◌, None, Some}
use Rattle.std.specs.declared.option.Option.{Option}
use Rattle.std.specs.FinMap.{get, insert, remove}
use Rattle.algebra.specs.Ring.{Ring}
use Rattle.algebra.specs.Roots.{total}
use Rattle.algebra.specs.Bivariate.{Bivariate, coefficient, greatest, x_power, x_power_at, y_power}

module _ {F : Type 0} (number : F → ℕ) where
  -- a coefficient as it stands in the map: zero does not
  abbrev pub kept : F → Option F
  kept c = if number c == 0 then None else Some c

  -- the map of the coefficients p i j
  abbrev pub IsMapOf : (ℕ → ℕ → F) → Bivariate F → Type 0
  IsMapOf p q = (i j : ℕ) → get q (i, j) ≡ kept (p i j)

  -- with c in place of the coefficient of x^i y^j
  abbrev pub with_coefficient : Bivariate F → ℕ → ℕ → F → Bivariate F
  with_coefficient q i j c = if number c == 0 then remove q (i, j) else insert q (i, j) c

-- r is the greatest power of x that divides the polynomial
pub record IsPowerOfX {F : Type 0} (r : ℕ) (q : Bivariate F) : Type 0 where
  pub divides : (i j : ℕ) → get q (i, j) ≢ None → r ≤ i
  pub row : ℕ
  pub reached : get q (r, row) ≢ None

-- q divided by x^r
abbrev pub IsStripped : {F : Type 0} → ℕ → Bivariate F → Bivariate F → Type 0
IsStripped r q stripped = (i j : ℕ) → get stripped (i, j) ≡ get q (i + r, j)

-- the coefficient of x^i y^j in q + factor · p
abbrev pub plus_multiple : {F : Type 0} → Ring F → Bivariate F → F → Bivariate F → ℕ → ℕ → F
plus_multiple R q factor p i j = R.plus (coefficient R q i j) (R.times factor (coefficient R p i j))

-- so many more than the greatest power of x beside y^j, added up over all powers of y up to the greatest
abbrev pub row_total : {F : Type 0} → ℕ → Bivariate F → ℕ
row_total more q = total (greatest y_power q + 1) (λ j. greatest (x_power_at j) q + more)

-- X Y^2, where X is one more than the greatest power of x, and Y one more than that of y
abbrev pub shift_bound : {F : Type 0} → Bivariate F → ℕ
shift_bound q = (greatest x_power q + 1) * ((greatest y_power q + 1) * (greatest y_power q + 1))
