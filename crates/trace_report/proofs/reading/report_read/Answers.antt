use Rattle.std.proofs.Common.{sym, subst}
use Rattle.std.proofs.lemmas.Bool.{false≢true}
use Rattle.std.proofs.Common.{◌∙◌}
use Rattle.serde_json.specs.View.{view}
use Rattle.trace_report.specs.Answers.{Tells}
use Rattle.trace_report.proofs.Documents.{of_value, no_value}
use Rattle.trace_report.proofs.reading.report_read.Goals as goal

pub returns-in-Ok : goal.returns-in-Ok
returns-in-Ok c =
    subst (Tells (λ findings. findings) c.findings_in.result) (sym (of_value c.args.bytes.now (view c.in-Ok.value) c.in-Ok.ensures.ok.0 c.in-Ok.ensures.ok.1)) c.findings_in.ensures

pub returns-in-Err-2 : goal.returns-in-Err-2
returns-in-Err-2 c = no_value c.args.bytes.now (λ utf8. c.in-Err.ensures.err (λ memory. false≢true (sym c.if-is_memory.false ∙ c.is_memory.ensures.1 memory)) utf8)
