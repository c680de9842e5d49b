-- Roots with their multiplicities.
-- Source: any text on algebra.
use Rattle.std.specs.Prelude.{◌≡◌, ℕ, zero, suc, ◌+◌, ◌<◌}
use Rattle.algebra.specs.Ring.{Ring}
use Rattle.algebra.specs.Series.{product, linear_power, IsBelow}

-- (x + a)^s divides p, or in other words p has a root of multiplicity at least s at a
pub record HasRoot {F : Type 0} (R : Ring F) (s : ℕ) (p : ℕ → F) (a : F) : Type 0 where
  pub rest : ℕ → F
  pub bound : ℕ
  pub below : IsBelow R bound rest
  pub whole : (k : ℕ) → p k ≡ product R (linear_power R a s) rest k

-- the sum of m i over all i below n
abbrev pub total : ℕ → (ℕ → ℕ) → ℕ
total zero m = 0
total (suc n) m = m n + total n m

-- the first n of the points differ from each other
abbrev pub AreDifferent : {F : Type 0} → ℕ → (ℕ → F) → Type 0
AreDifferent n points = (i j : ℕ) → i < n → j < n → points i ≡ points j → i ≡ j
