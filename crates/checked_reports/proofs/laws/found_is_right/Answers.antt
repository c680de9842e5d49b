use Rattle.std.proofs.Common.{refl}
use Rattle.desk_terms.specs.Findings.{findings}
use Rattle.checked_reports.proofs.Verdicts.{right_there}
use Rattle.checked_reports.proofs.laws.found_is_right.Goals as goal

pub returns : goal.returns
unfolding findings
returns c roll word bound enough = right_there roll word (findings roll word bound) enough refl
