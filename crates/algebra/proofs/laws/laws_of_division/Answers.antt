use Rattle.algebra.proofs.Multiplicity.{divided_by, root_of_value, value_of_root}
use Rattle.algebra.proofs.laws.laws_of_division.Goals as goal

pub returns-clause-quotient : goal.returns-clause-quotient
returns-clause-quotient g c = λ R d p a b. divided_by R d p a b

pub returns-clause-root : goal.returns-clause-root
returns-clause-root g c = λ R d p a b. (value_of_root R d p a b, root_of_value R d p a b)
