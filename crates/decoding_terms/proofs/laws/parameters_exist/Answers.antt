use Rattle.decoding_terms.proofs.Existence.{parameters}
use Rattle.decoding_terms.proofs.laws.parameters_exist.Goals as goal

pub returns : goal.returns
returns c = parameters
