-- What a done `sample` says, over every store. This project's own.
use Rattle.std.specs.Prelude.{◌≡◌, ℕ, List, Option, None}
use Rattle.desk_terms.specs.Roll.{roll_of}
use Rattle.coalition_terms.specs.Coalition.{IsTraced}
use Rattle.sample_terms.specs.Numbers.{coalition}
use Rattle.sample_terms.specs.Inputs.{register_of, twins, variants}
use Rattle.sample_terms.specs.Copies.{word_of}
use Rattle.sample_terms.specs.Summary.{summary_of}
use Rattle.outcome_terms.specs.Call.{TellsWhole}

-- No two variants of the sample have one digest, and the line that sums it up was put. Everyone who is accused is of its coalition,
-- and somebody is.
pub record SumsUp (number : ℕ) (before after : Option (List ℕ)) : Type 0 where
  pub alone : twins number variants ≡ None
  pub put : TellsWhole (summary_of number) before after
  pub traced : IsTraced (roll_of (register_of number)) (word_of number) 3 (coalition number)
