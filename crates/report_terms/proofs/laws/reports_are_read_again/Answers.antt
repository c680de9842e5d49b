use Rattle.report_terms.proofs.Again.{report_of-report_text}
use Rattle.report_terms.proofs.laws.reports_are_read_again.Goals as goal

pub returns : goal.returns
returns c = report_of-report_text
