-- The least number with a property.
-- Source: any text on logic.
use Rattle.std.specs.Prelude.{ℕ, ◌<◌}

-- n has the property, and no number below n has it
pub record IsLeast (P : ℕ → Type 0) (n : ℕ) : Type 0 where
  pub holds : P n
  pub none_below : (k : ℕ) → k < n → ¬ P k
