-- What a done `check` says, where the blobs and the output are told. This project's own.
use Rattle.std.specs.Prelude.{◌≡◌, ℕ, ◌<◌, List, ◌++◌, Option, Some, None, ⊤}
use Rattle.shelf_terms.specs.Blobs.{Blobs}
use Rattle.code_terms.specs.Words.{readable}
use Rattle.decoder_terms.specs.Decoding.{not_enough}
use Rattle.desk_terms.specs.Findings.{findings}
use Rattle.desk_terms.specs.Roll.{roll_of}
use Rattle.outcome_terms.specs.TraceReports.{word_held}
use Rattle.outcome_terms.specs.CheckReports.{IsCheckedRight}

-- the report says just what the desk finds in the copy's word, of which enough places can be read, and the text says so
pub record IsRight (blobs : Blobs) (title register copy report text : List ℕ) : Type 0 where
  pub checked : IsCheckedRight blobs title register copy report text
  pub enough : not_enough checked.e.dimension checked.f.bound < readable (word_held blobs checked.t checked.p)
  pub are_findings : checked.f ≡ findings (roll_of checked.e) (word_held blobs checked.t checked.p) checked.f.bound

pub record PutsRight (blobs : Blobs) (title register copy report before after : List ℕ) : Type 0 where
  pub text : List ℕ
  pub is_right : IsRight blobs title register copy report text
  pub put : after ≡ before ++ text

abbrev pub TellsRight : Option Blobs → (title register copy report : List ℕ) → Option (List ℕ) → Option (List ℕ) → Type 0
TellsRight (Some blobs) title register copy report (Some before) (Some after) = PutsRight blobs title register copy report before after
TellsRight (Some blobs) title register copy report (Some before) None = ⊥
TellsRight (Some blobs) title register copy report None after = ⊤
TellsRight None title register copy report before after = ⊤
