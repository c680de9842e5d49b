use Rattle.code_terms.proofs.Evaluation.{symbol_of-below}
use Rattle.code_terms.proofs.laws.symbols_are_symbols.Goals as goal

pub returns : goal.returns
returns c = λ m k u i low high below. symbol_of-below m low high u i k below
