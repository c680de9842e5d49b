-- The points of pairs: for each pair the element of its place's number, and the symbol.
-- Source: this project's own.
use Rattle.std.specs.Prelude.{◌≡◌, ℕ, Bool, List, map, slice_index_or}
use Rattle.algebra.specs.Ring.{Ring}
use Rattle.pair_terms.specs.Pairs.{Pair, fits}

-- the point with this place in the list, and past the end the one with two zeros
abbrev pub point_at : {F : Type 0} → Ring F → List (F × F) → ℕ → F × F
point_at R points i = slice_index_or points i (R.nil, R.nil)

-- the numbers of a point's elements
abbrev pub numbers_of : {F : Type 0} → (F → ℕ) → F × F → Pair
numbers_of number p = (number p.0, number p.1)

-- whether the message u has the point's symbol at its place
abbrev pub goes_through : {F : Type 0} → (F → ℕ) → (m k u : ℕ) → F × F → Bool
goes_through number m k u p = fits m k u (numbers_of number p)

-- the points of these pairs, in order
abbrev pub ArePoints : {F : Type 0} → (F → ℕ) → List Pair → List (F × F) → Type 0
ArePoints number pairs points = map (numbers_of number) points ≡ pairs
