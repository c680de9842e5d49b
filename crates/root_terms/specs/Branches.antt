-- The steps of the search for y-roots, coefficient by coefficient from the lowest: where the constant is c, the rest is a y-root of what is left of Q(x, c + x y) when the greatest power of x is divided out.
-- Source: Roth and Ruckenstein (2000). How many products a search may take is this project's own.
use Rattle.std.specs.Prelude.{◌≡◌, ◌≢◌, ℕ, suc, ◌+◌, ◌*◌, ◌≤◌}
use Rattle.algebra.specs.Ring.{Ring}
use Rattle.algebra.specs.Roots.{HasRoot}
use Rattle.algebra.specs.Bivariate.{Bivariate, coefficient, greatest, x_power, y_power, weight_by}
use Rattle.root_terms.specs.YRoots.{IsYRoot, led_by}

-- Q(0, y), by the powers of y
abbrev pub at_zero : {F : Type 0} → Ring F → Bivariate F → ℕ → F
at_zero R q j = coefficient R q 0 j

-- x does not divide Q
abbrev pub IsReduced : {F : Type 0} → Ring F → Bivariate F → Type 0
IsReduced R q = (j : ℕ) × (at_zero R q j ≢ R.nil)

-- the degree of Q(0, y) is at most d
abbrev pub IsNarrow : {F : Type 0} → Ring F → ℕ → Bivariate F → Type 0
IsNarrow R d q = (j : ℕ) → at_zero R q j ≢ R.nil → j ≤ d

-- the y-roots of the branch are what stands beside x in the y-roots of Q with the constant c; and its degree at x = 0 is at most the multiplicity of c as a root of Q(0, y)
pub record IsBranch {F : Type 0} (R : Ring F) (q : Bivariate F) (c : F) (branch : Bivariate F) : Type 0 where
  pub below : (f : ℕ → F) → IsYRoot R branch f → IsYRoot R q (led_by c f)
  pub above : (f : ℕ → F) → IsYRoot R q f → c ≡ f 0 → IsYRoot R branch (λ i. f (suc i))
  pub reduced : IsReduced R branch
  -- the power of x that was divided out
  pub order : ℕ
  pub some : 1 ≤ order
  pub root : HasRoot R order (at_zero R q) c
  pub narrow : IsNarrow R order branch
  pub x : greatest x_power branch ≤ greatest x_power q + greatest y_power q
  pub y : greatest y_power branch ≤ greatest y_power q
  pub weight : (w : ℕ) → greatest (weight_by w) branch ≤ greatest (weight_by (suc w)) q

-- the same y-roots, without the powers of x that divide Q
pub record IsReduction {F : Type 0} (R : Ring F) (q : Bivariate F) (curve : Bivariate F) : Type 0 where
  pub below : (f : ℕ → F) → IsYRoot R curve f → IsYRoot R q f
  pub above : (f : ℕ → F) → IsYRoot R q f → IsYRoot R curve f
  pub reduced : IsReduced R curve
  pub x : greatest x_power curve ≤ greatest x_power q
  pub y : greatest y_power curve ≤ greatest y_power q
  pub weight : (w : ℕ) → greatest (weight_by w) curve ≤ greatest (weight_by w) q

-- how many products the search for k coefficients may take, where the degree of Q(0, y) is at most d, all powers of y are below y, and the weight, in which y counts as the k - 1 coefficients after the first, is below e
abbrev pub search_bound : (k d y e : ℕ) → ℕ
search_bound k d y e = 256 + k * (d * (512 + e * (y * y)))
