use Rattle.coalition_terms.proofs.Distance.{far_apart}
use Rattle.coalition_terms.proofs.laws.codewords_are_far_apart.Goals as goal

pub returns : goal.returns
returns c = far_apart
