use Rattle.form_terms.proofs.LineLaws.{lines_and_rest}
use Rattle.form_terms.proofs.laws.texts_are_their_lines.Goals as goal

pub returns : goal.returns
returns c = lines_and_rest
