-- What the loops over slices keep: how far elements are replaced, and the products that they look up.
use Rattle.std.specs.Prelude.{◌≡◌, ℕ, ◌*◌, ◌^◌, ◌<◌, List, ◌++◌, take, drop, slice_index}
use Rattle.std.specs.Simd.Lanes.{zip2}
use Rattle.gf_terms.specs.Arithmetic.{product}

-- xs with each element x at a place below i replaced by f x y, where y stands at that place in ys
abbrev pub zipped_below : {X Y : Type 0} → (X → Y → X) → ℕ → List X → List Y → List X
zipped_below f i xs ys = zip2 f (take i xs) ys ++ drop i xs

-- the products of a factor with the numbers below 16, and with the multiples of 16
pub record HasProducts (m factor : ℕ) (low high : List ℕ) : Type 0 where
  pub below : (a : ℕ) → a < 16 → slice_index low a ≡ product m factor a
  pub sixteens : (b : ℕ) → b < 16 → 16 * b < 2 ^ m → slice_index high b ≡ product m factor (16 * b)
