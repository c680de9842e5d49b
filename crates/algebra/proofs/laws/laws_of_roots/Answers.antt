use Rattle.algebra.proofs.Fields.{domain}
use Rattle.algebra.proofs.Roots.{few_roots}
use Rattle.algebra.proofs.Multiplicity.{few}
use Rattle.algebra.proofs.laws.laws_of_roots.Goals as goal

pub returns-clause-few : goal.returns-clause-few
returns-clause-few g c = λ R field. few R (domain R field)

pub returns-clause-zero : goal.returns-clause-zero
returns-clause-zero g c = λ R field n points p b apart z. few_roots R (domain R field) n points p apart b z
