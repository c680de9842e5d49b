use Rattle.form_terms.proofs.LineLaws.{lines_again, no_rest}
use Rattle.form_terms.proofs.laws.lines_are_cut_again.Goals as goal

pub returns-clause-lines : goal.returns-clause-lines
returns-clause-lines c = lines_again

pub returns-clause-nothing_behind : goal.returns-clause-nothing_behind
returns-clause-nothing_behind c = no_rest
