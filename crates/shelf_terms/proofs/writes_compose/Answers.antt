use Rattle.shelf_terms.proofs.CausesLemmas.{writes_then}
use Rattle.shelf_terms.proofs.writes_compose.Goals as goal

pub returns : goal.returns
returns c = λ a b c failed first second. writes_then first second
