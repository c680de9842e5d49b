-- What a curve satisfies while conditions are handled one after the other.
-- Source: R. Koetter's interpolation, as in R. McEliece, The Guruswami-Sudan decoding algorithm for Reed-Solomon codes (2003).
use Rattle.std.specs.Prelude.{◌≡◌, ◌≢◌, ℕ, ◌+◌, ◌<◌, ◌⊎◌, List}
use Rattle.algebra.specs.Ring.{Ring}
use Rattle.koetter_terms.specs.Curves.{IsTile, curve}
use Rattle.koetter_terms.specs.Derivatives.{derivative_at}
use Rattle.term_lists.specs.Places.{place}

-- which derivatives are to be zero: at the point (a, b) that of order (u, v)
abbrev pub Conditions : Type 0 → Type 1
Conditions F = F → F → ℕ → ℕ → Type 0

-- all orders (u, v) with u + v below s at each of the first points
abbrev pub AtPoints : {F : Type 0} → (ℕ → F × F) → ℕ → ℕ → Conditions F
AtPoints points s count a b u v = (i : ℕ) × (i < count) × (points i ≡ (a, b)) × (u + v < s)

-- at a point the first orders, as x^u y^v stand where y weighs 1
abbrev pub Before : {F : Type 0} → F × F → ℕ → ℕ → Conditions F
Before point s count a b u v = (point ≡ (a, b)) × (u + v < s) × (place 1 u v < count)

-- all orders at the points before i, and the first orders at point i
abbrev pub Handled : {F : Type 0} → (ℕ → F × F) → ℕ → ℕ → ℕ → Conditions F
Handled points s i count a b u v = AtPoints points s i a b u v ⊎ Before (points i) s count a b u v

module _ {F : Type 0} (R : Ring F) (w e n s : ℕ) where
  -- the derivatives that are to be zero are
  abbrev pub Meets : Conditions F → (ℕ → ℕ → F) → Type 0
  Meets met q = (a b : F) (u v : ℕ) → met a b u v → derivative_at R e n q a b u v ≡ R.nil

  -- what holds of the curve that is kept with the power j of y and has its derivatives at (a, b) in the tile
  pub record IsKept (met : Conditions F) (a b : F) (j exponent : ℕ) (coefs tile : List F) : Type 0 where
    pub lead : curve R w coefs exponent j ≢ R.nil
    pub tiled : IsTile R e n s (curve R w coefs) a b tile
    pub meets : Meets met (curve R w coefs)
