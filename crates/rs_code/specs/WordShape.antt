-- What every word of the program meets: at most 256 places, and bytes for symbols.
use Rattle.std.specs.Prelude.{ℕ, ◌≤◌, List, length, Option}
use Rattle.code_terms.specs.Words.{HasSymbolsBelow}

pub record IsWord (word : List (Option ℕ)) : Type 0 where
  pub short : length word ≤ 256
  pub bytes : HasSymbolsBelow 256 word
