-- A code: how many places its words have, and how many coefficients its messages.
use Rattle.std.specs.Prelude.{ℕ, ◌≤◌}

pub record CodeShape : Type 0 where
  pub places : ℕ
  pub dimension : ℕ

-- what every code over a field of q elements meets
pub record IsCode (q : ℕ) (code : CodeShape) : Type 0 where
  pub some_places : 1 ≤ code.places
  pub most_places : code.places ≤ q
  pub least_dimension : 2 ≤ code.dimension
  pub most_dimension : code.dimension ≤ 13
