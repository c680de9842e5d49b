use Rattle.std.proofs.Common.{ℕ, List, Err, sym, ◌∙◌, ap, subst}
use Rattle.outcome_terms.specs.declared.refusal.Refusal.{Refusal}
use Rattle.outcome_terms.specs.AccuseCommand.{report}
use Rattle.outcome_terms.specs.Reading.{Give}
use Rattle.outcome_terms.specs.Stores.{Settles}
use Rattle.trace_commands.proofs.Reports.{report_found, report_refused, report_plain}
use Rattle.trace_commands.proofs.reporting.report_on.Goals as goal

pub returns-in_ok-report_text-in-Ok-clause-report : goal.returns-in_ok-report_text-in-Ok-clause-report
returns-in_ok-report_text-in-Ok-clause-report g c =
    report_found c.args.register.now c.args.word.now c.args.bound c.in-Ok.findings c.requires.bound c.in-Ok.ensures.findings
    ∙ ap (λ (text : List ℕ). Give text) (sym c.in_ok-report_text-in-Ok.ensures.text)

pub returns-in-Err-clause-report : goal.returns-in-Err-clause-report
returns-in-Err-clause-report g c =
    subst (λ (e : Refusal). Settles {A = List ℕ} (Err e) (report c.args.register.now c.args.word.now c.args.bound)) (sym c.refusal.ensures)
    (report_refused c.args.register.now c.args.word.now c.args.bound c.in-Err.error c.requires.bound c.in-Err.ensures.findings)

pub report_text-requires : goal.report_text-requires
report_text-requires g c =
    report_plain c.args.register.now c.args.word.now c.args.bound c.in-Ok.findings c.len-licensees.ensures.valid c.in-Ok.ensures.findings
