-- Coalitions of licensees, and the words that their copies can have.
-- Source: A. Silverberg, J. Staddon and J. L. Walker, Applications of list decoding to tracing traitors, IEEE Trans. Inform.
-- Theory 49 (2003). That a coalition is a list of serials, in which one may stand twice, is this project's own.
use Rattle.std.specs.Prelude.{◌≡◌, ℕ, ◌<◌, ◌≤◌, List, length, Option, Some, All, Contains}
use Rattle.code_terms.specs.Symbols.{symbol_of}
use Rattle.code_terms.specs.Words.{slot_at}
use Rattle.desk_terms.specs.Findings.{findings}
use Rattle.desk_terms.specs.Roll.{Roll, message_at}

-- at most c serials, each of a licensee on the roll
pub record IsCoalition (roll : Roll) (c : ℕ) (members : List ℕ) : Type 0 where
  pub enrolled : All (λ j. j < length roll.entries) members
  pub few : length members ≤ c

-- each symbol of the word is the symbol that some member has at that place
abbrev pub Explains : Roll → List ℕ → List (Option ℕ) → Type 0
Explains roll members word =
    (i v : ℕ) → slot_at word i ≡ Some v → (j : ℕ) × Contains members j × (symbol_of roll.bits roll.dimension (message_at roll j) i ≡ v)

-- the desk accuses only members of the coalition, and at least one of them
pub record IsTraced (roll : Roll) (word : List (Option ℕ)) (c : ℕ) (coalition : List ℕ) : Type 0 where
  pub members : All (λ accused. Contains coalition accused.serial) (findings roll word c).accused
  pub some : 0 < length (findings roll word c).accused
