use Rattle.pair_terms.proofs.Told.{told}
use Rattle.pair_terms.proofs.laws.recovered_is_told.Goals as goal

pub returns : goal.returns
returns g = λ m k c pairs messages up only every. told m k c pairs messages up only every
