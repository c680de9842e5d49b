-- How a reader of reports answers. Want of memory is the one answer that is always free.
use Rattle.std.specs.Prelude.{◌≡◌, Option, Some, None, Result, Ok, Err}
use Rattle.trace_report.specs.declared.errors.ReportError.{ReportError}
use Rattle.trace_report.specs.declared.errors.ReportError.TheVariants.{NotReport, Memory}

-- the value that is said, seen so, and a refusal where nothing is said
abbrev pub Tells : {X A : Type 0} → (X → A) → Result X ReportError → Option A → Type 0
Tells view (Ok x) said = said ≡ Some (view x)
Tells view (Err NotReport) said = said ≡ None
Tells view (Err Memory) said = Unit {0}
