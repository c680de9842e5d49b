use Rattle.algebra.proofs.Multiplicity.{value_sum, value_product}
use Rattle.algebra.proofs.laws.laws_of_values.Goals as goal

pub returns-clause-add : goal.returns-clause-add
returns-clause-add g c = λ R. value_sum R

pub returns-clause-multiply : goal.returns-clause-multiply
returns-clause-multiply g c = λ R. value_product R
