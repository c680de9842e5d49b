-- What a call of a command may take, by the trace that it makes. This project's own.
use Rattle.std.specs.Prelude.{◌≡◌, ℕ, Option, Some, None, Result, Ok, Err, ⊤}
use Rattle.shelf_terms.specs.Blobs.{Blobs}
use Rattle.outcome_terms.specs.declared.refusal.Refusal.{Refusal}
use Rattle.outcome_terms.specs.Reading.{Reading, Give, given}
use Rattle.outcome_terms.specs.Request.{Request, Trace as Traces, Accuse, Sample}
use Rattle.outcome_terms.specs.Stores.{Follows}
use Rattle.records.specs.Stores.{Store}
use Rattle.outcome_terms.specs.Traces.{Trace, Counted, IsWithin}
use Rattle.outcome_terms.specs.AccuseCommand.{accuse_trace}
use Rattle.outcome_terms.specs.TraceCommand.{trace_trace}
use Rattle.outcome_terms.specs.SampleCommand.{sample_trace}

-- the trace that a command makes; one line a command that traces
abbrev pub trace_made : Option Request → Option (Reading Trace)
trace_made (Some (Traces title register copy c)) = Some (trace_trace title register copy c)
trace_made (Some (Accuse register word c)) = Some (accuse_trace register word c)
trace_made (Some (Sample number)) = Some (Give sample_trace)
trace_made request = None

-- Over every store: nothing is taken, or what one trace may take, where its register and word were read.
pub data Spends (costs : Trace → ℕ → Type 0) (reading : Reading Trace) (s t : Store) (old new : Counted) : Type 0 where
  nothing : new ≡ old → Spends costs reading s t old new
  traced : {trace : Trace} → Follows reading s t (Ok trace) → IsWithin costs trace old new → Spends costs reading s t old new

abbrev pub SpendsAtMost : (Trace → ℕ → Type 0) → Option (Reading Trace) → Store → Store → Counted → Counted → Type 0
SpendsAtMost costs None s t old new = ⊤
SpendsAtMost costs (Some reading) s t old new = Spends costs reading s t old new

-- Over blobs that are told: what the trace of their register and word may take, and nothing where a refusal comes before it.
abbrev pub TakesGiven : (Trace → ℕ → Type 0) → Result Trace Refusal → Counted → Counted → Type 0
TakesGiven costs (Ok trace) old new = IsWithin costs trace old new
TakesGiven costs (Err e) old new = new ≡ old

abbrev pub TakesAtMost : (Trace → ℕ → Type 0) → Option (Reading Trace) → Blobs → Counted → Counted → Type 0
TakesAtMost costs None blobs old new = ⊤
TakesAtMost costs (Some reading) blobs old new = TakesGiven costs (given blobs reading) old new
