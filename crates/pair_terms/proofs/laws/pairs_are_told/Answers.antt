use Rattle.pair_terms.proofs.Told.{fitting-ascending}
use Rattle.pair_terms.proofs.laws.pairs_are_told.Goals as goal

pub returns : goal.returns
returns c = λ n m k u pairs are. fitting-ascending n m k u pairs are
