-- Coalitions whose copies may show several symbols of one place.
-- Source: as of coalitions; that several symbols may stand at a place is this project's own.
use Rattle.std.specs.Prelude.{◌≡◌, ℕ, ◌<◌, List, length, All, Contains}
use Rattle.code_terms.specs.Symbols.{symbol_of}
use Rattle.pair_terms.specs.Pairs.{Pair}
use Rattle.desk_terms.specs.Roll.{Roll, message_at}
use Rattle.merge_terms.specs.Merged.{accused_by}

-- each pair is the symbol that some member has at that place
abbrev pub ExplainsPairs : Roll → List ℕ → List Pair → Type 0
ExplainsPairs roll members pairs =
    All (λ p. (j : ℕ) × Contains members j × (symbol_of roll.bits roll.dimension (message_at roll j) p.0 ≡ p.1)) pairs

-- the desk accuses only members of the coalition, and at least one of them
pub record AreTraced (roll : Roll) (pairs : List Pair) (c : ℕ) (coalition : List ℕ) : Type 0 where
  pub members : All (λ accused. Contains coalition accused.serial) (accused_by roll pairs c)
  pub some : 0 < length (accused_by roll pairs c)
