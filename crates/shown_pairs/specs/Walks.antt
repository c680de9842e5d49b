-- Where a walk over pairs stands: how many places are passed, and the message's symbol at the last of them. Source: this
-- project's own.
use Rattle.std.specs.Prelude.{◌≡◌, ℕ, ◌+◌, ◌<◌, ◌≤◌, List, length, slice_index_or}
use Rattle.code_terms.specs.Symbols.{symbol_of}
use Rattle.pair_terms.specs.Pairs.{Pair}

-- before the pair of number i, over n places
pub record StandsBefore (m k u n : ℕ) (pairs : List Pair) (i passed symbol : ℕ) : Type 0 where
  pub within : passed ≤ n
  pub ahead : (j : ℕ) (d : Pair) → i ≤ j → j < length pairs → passed ≤ (slice_index_or pairs j d).0 + 1
  pub known : (last : ℕ) → passed ≡ last + 1 → symbol ≡ symbol_of m k u last
