-- Lists that are longer than others.
-- Source: this project's own.
use Rattle.std.specs.Prelude.{◌≡◌, ℕ, ◌+◌, ◌<◌, List, length, slice_index_or}

-- the old list with n more elements, of which the one at i is as `each i` says
pub record IsExtended {X : Type 0} (each : ℕ → X → Type 0) (default : X) (old : List X) (n : ℕ) (new : List X) : Type 0 where
  pub count : length new ≡ length old + n
  pub before : (k : ℕ) → k < length old → slice_index_or new k default ≡ slice_index_or old k default
  pub after : (i : ℕ) → i < n → each i (slice_index_or new (length old + i) default)
