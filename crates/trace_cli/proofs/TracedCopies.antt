-- What a done `trace` says.
use Rattle.std.proofs.Common.{◌≡◌, ℕ, List, Option, Some, None, Result, Ok, Err, refl}
use Rattle.std.specs.Option.{IfSome}
use Rattle.shelf_terms.specs.Blobs.{Blobs}
use Rattle.outcome_terms.specs.declared.refusal.Refusal.{Refusal}
use Rattle.outcome_terms.specs.Reading.{given}
use Rattle.outcome_terms.specs.TraceCommand.{trace}
use Rattle.outcome_terms.specs.TraceReports.{IsTraceReport}
use Rattle.outcome_terms.specs.Outcome.{puts}
use Rattle.records.specs.Stores.{Output}
use Rattle.outcome_terms.specs.Call.{HasEffect, TellsWhole}
use Rattle.outcome_terms.proofs.TraceHeadlines.{trace_done}
use Rattle.copy_reports.specs.TracedCopies.{TellsTraceReport, TracesExplained, TracesPackaged}
use Rattle.copy_reports.proofs.Traced.{explained_traced, packaged_traced}

-- the report that was put out
record HasReport (blobs : Blobs) (title register copy : List ℕ) (c : ℕ) (before after : Option (List ℕ)) : Type 0 where
  text : List ℕ
  is_report : IsTraceReport blobs title register copy c text
  put : TellsWhole text before after

has_report : (blobs : Blobs) (title register copy : List ℕ) (c : ℕ) (told : Option Blobs) (before after : Output) → HasEffect (puts (given blobs (trace title register copy c))) blobs told before after
    → HasReport blobs title register copy c before.written after.written
has_report blobs title register copy c told before after h = go (given blobs (trace title register copy c)) refl h
  where
    go : (wanted : Result (List ℕ) Refusal) → given blobs (trace title register copy c) ≡ wanted → HasEffect (puts wanted) blobs told before after → HasReport blobs title register copy c before.written after.written
    go (Ok text) is h = record { text = text; is_report = trace_done blobs title register copy c text is; put = h.1 }
    go (Err e) is h = absurd h

tells : (blobs : Blobs) (title register copy : List ℕ) (c : ℕ) (before after : Option (List ℕ)) → HasReport blobs title register copy c before after → TellsTraceReport (Some blobs) title register copy c before after
tells blobs title register copy c (Some before) (Some after) h = record { text = h.text; is_report = h.is_report; put = h.put }
tells blobs title register copy c (Some before) None h = h.put
tells blobs title register copy c None after h = tt

pub trace_told : (old new : Option Blobs) (title register copy : List ℕ) (c : ℕ) (before after : Output) → IfSome old (λ blobs. HasEffect (puts (given blobs (trace title register copy c))) blobs new before after)
    → TellsTraceReport old title register copy c before.written after.written × (TracesExplained old title register copy c × TracesPackaged old title register copy c)
trace_told None new title register copy c before after h = (tt, (tt, tt))
trace_told (Some blobs) new title register copy c before after h =
    let report = has_report blobs title register copy c new before after h in (
      tells blobs title register copy c before.written after.written report,
      (explained_traced blobs title register copy c report.text report.is_report, packaged_traced blobs title register copy c report.text report.is_report),
    )
