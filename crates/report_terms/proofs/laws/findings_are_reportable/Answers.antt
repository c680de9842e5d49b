use Rattle.report_terms.proofs.DeskFindings.{findings_reportable}
use Rattle.report_terms.proofs.laws.findings_are_reportable.Goals as goal

pub returns : goal.returns
returns c = findings_reportable
