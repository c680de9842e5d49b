use Rattle.shelf_terms.proofs.CausesLemmas.{reads_then}
use Rattle.shelf_terms.proofs.reads_compose.Goals as goal

pub returns : goal.returns
returns c = λ a b c name next failed missed first second. reads_then first second
