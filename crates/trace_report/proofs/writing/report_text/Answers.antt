use Rattle.std.proofs.Common.{◌≡◌, ◌++◌, ◌∷◌, [], List, ℕ, ◌∙◌, sym, ap, false, subst}
use Rattle.serde_json.specs.Data.{Data}
use Rattle.serde_json.specs.View.{view}
use Rattle.serde_json.specs.Written.{compact_text, has_float}
use Rattle.desk_terms.specs.Report.{report_text}
use Rattle.report_terms.specs.Reports.{report_of}
use Rattle.report_terms.proofs.Again.{report_of-report_text}
use Rattle.report_terms.proofs.Texts.{compact_text-report, report_no_float}
use Rattle.trace_report.proofs.writing.report_text.Goals as goal

pub returns : goal.returns
returns c =
    let whole : has_float (view c.in_ok-value.value) ≡ false = subst (λ (d : Data). has_float d ≡ false) (sym c.in_ok-value.ensures) (report_no_float c.args.findings.now) in
    let text : c.push.new.self.items ≡ report_text c.args.findings.now =
    c.in_ok-push.ensures.items ∙ ap (λ (text : List ℕ). text ++ 10 ∷ []) (c.in_ok-text.ensures.text whole ∙ ap compact_text c.in_ok-value.ensures) ∙ compact_text-report c.args.findings.now c.requires in
    record { text = text; again = λ are. ap report_of text ∙ report_of-report_text c.args.findings.now are }
