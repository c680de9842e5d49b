use Rattle.std.proofs.Common.{refl}
use Rattle.std.specs.Fmt.{digits}
use Rattle.std.specs.Str.{is_utf8, chars}
use Rattle.serde_json.proofs.OnLiterals.{serde_json_on_literals}
use Rattle.report_terms.specs.Reports.{report_of, findings_said, accused_said}
use Rattle.report_terms.proofs.laws.worked_readings.Goals as goal

pub returns-clause-spelled : goal.returns-clause-spelled
unfolding report_of findings_said accused_said serde_json_on_literals is_utf8 chars digits
returns-clause-spelled c = refl

pub returns-clause-no_key : goal.returns-clause-no_key
unfolding report_of findings_said accused_said serde_json_on_literals is_utf8 chars
returns-clause-no_key c = refl

pub returns-clause-point : goal.returns-clause-point
unfolding report_of findings_said accused_said serde_json_on_literals is_utf8 chars
returns-clause-point c = refl

pub returns-clause-exponent : goal.returns-clause-exponent
unfolding report_of findings_said accused_said serde_json_on_literals is_utf8 chars
returns-clause-exponent c = refl

pub returns-clause-minus : goal.returns-clause-minus
unfolding report_of findings_said accused_said serde_json_on_literals is_utf8 chars
returns-clause-minus c = refl

pub returns-clause-large : goal.returns-clause-large
unfolding report_of findings_said accused_said serde_json_on_literals is_utf8 chars
returns-clause-large c = refl

pub returns-clause-name : goal.returns-clause-name
unfolding report_of findings_said accused_said serde_json_on_literals is_utf8 chars
returns-clause-name c = refl
