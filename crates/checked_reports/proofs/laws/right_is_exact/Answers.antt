use Rattle.checked_reports.proofs.Verdicts.{right_only, right_there}
use Rattle.checked_reports.proofs.laws.right_is_exact.Goals as goal

pub returns : goal.returns
returns c roll word f = (right_only roll word f, λ both. right_there roll word f both.0 both.1)
