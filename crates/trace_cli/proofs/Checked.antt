-- What a done `check` says.
use Rattle.std.proofs.Common.{◌≡◌, ℕ, List, Option, Some, None, Result, Ok, Err, refl}
use Rattle.std.specs.Option.{IfSome}
use Rattle.shelf_terms.specs.Blobs.{Blobs}
use Rattle.desk_terms.specs.Roll.{roll_of}
use Rattle.checked_reports.proofs.Verdicts.{right_only}
use Rattle.outcome_terms.specs.declared.refusal.Refusal.{Refusal}
use Rattle.outcome_terms.specs.Reading.{given}
use Rattle.outcome_terms.specs.TraceReports.{word_held}
use Rattle.outcome_terms.specs.CheckCommand.{check}
use Rattle.outcome_terms.specs.CheckReports.{IsCheckedRight}
use Rattle.outcome_terms.specs.Outcome.{puts}
use Rattle.records.specs.Stores.{Output}
use Rattle.outcome_terms.specs.Call.{HasEffect, TellsWhole}
use Rattle.outcome_terms.proofs.CheckHeadlines.{check_done}
use Rattle.trace_cli.specs.Checked.{IsRight, TellsRight}

is_right : (blobs : Blobs) (title register copy report text : List ℕ) → IsCheckedRight blobs title register copy report text → IsRight blobs title register copy report text
is_right blobs title register copy report text checked =
    let both = right_only (roll_of checked.e) (word_held blobs checked.t checked.p) checked.f checked.right in
    record { checked = checked; enough = both.0; are_findings = both.1 }

record HasAnswer (blobs : Blobs) (title register copy report : List ℕ) (before after : Option (List ℕ)) : Type 0 where
  text : List ℕ
  is_right : IsRight blobs title register copy report text
  put : TellsWhole text before after

has_answer : (blobs : Blobs) (title register copy report : List ℕ) (told : Option Blobs) (before after : Output) → HasEffect (puts (given blobs (check title register copy report))) blobs told before after
    → HasAnswer blobs title register copy report before.written after.written
has_answer blobs title register copy report told before after h = go (given blobs (check title register copy report)) refl h
  where
    go : (wanted : Result (List ℕ) Refusal) → given blobs (check title register copy report) ≡ wanted → HasEffect (puts wanted) blobs told before after → HasAnswer blobs title register copy report before.written after.written
    go (Ok text) is h = record { text = text; is_right = is_right blobs title register copy report text (check_done blobs title register copy report text is); put = h.1 }
    go (Err e) is h = absurd h

tells : (blobs : Blobs) (title register copy report : List ℕ) (before after : Option (List ℕ)) → HasAnswer blobs title register copy report before after → TellsRight (Some blobs) title register copy report before after
tells blobs title register copy report (Some before) (Some after) h = record { text = h.text; is_right = h.is_right; put = h.put }
tells blobs title register copy report (Some before) None h = h.put
tells blobs title register copy report None after h = tt

pub right_told : (old new : Option Blobs) (title register copy report : List ℕ) (before after : Output) → IfSome old (λ blobs. HasEffect (puts (given blobs (check title register copy report))) blobs new before after)
    → TellsRight old title register copy report before.written after.written
right_told None new title register copy report before after h = tt
right_told (Some blobs) new title register copy report before after h = tells blobs title register copy report before.written after.written (has_answer blobs title register copy report new before after h)
