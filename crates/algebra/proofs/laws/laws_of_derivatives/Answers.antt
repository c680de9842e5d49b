use Rattle.algebra.proofs.Derivatives.{expansion}
use Rattle.algebra.proofs.Composition.{divided_along}
use Rattle.algebra.proofs.laws.laws_of_derivatives.Goals as goal

pub returns-clause-expansion : goal.returns-clause-expansion
returns-clause-expansion g c = λ R. expansion R

pub returns-clause-division : goal.returns-clause-division
returns-clause-division g c = λ R. divided_along R
