use Rattle.copy_terms.proofs.Explained.{explained}
use Rattle.copy_terms.proofs.laws.copies_are_explained.Goals as goal

pub returns : goal.returns
returns c = explained
