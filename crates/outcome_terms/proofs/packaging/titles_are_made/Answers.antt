use Rattle.outcome_terms.proofs.TitleMaking.{title_given}
use Rattle.outcome_terms.proofs.packaging.titles_are_made.Goals as goal

pub returns : goal.returns
returns c = title_given
