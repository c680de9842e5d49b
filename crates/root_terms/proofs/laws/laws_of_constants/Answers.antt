use Rattle.std.proofs.Common.{◌∙◌, sym}
use Rattle.root_terms.proofs.Steps.{along_shift, substituted_first}
use Rattle.root_terms.proofs.laws.laws_of_constants.Goals as goal

pub returns-clause-first : goal.returns-clause-first
returns-clause-first g c = λ R q f h. sym (substituted_first R q f) ∙ h 0

pub returns-clause-rest : goal.returns-clause-rest
returns-clause-rest g c = λ R q shifted by each f h k. along_shift R q shifted by each f k ∙ h k
