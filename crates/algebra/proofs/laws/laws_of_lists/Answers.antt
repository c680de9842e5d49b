use Rattle.algebra.proofs.CoefficientLists.{one_list}
use Rattle.algebra.proofs.laws.laws_of_lists.Goals as goal

pub returns : goal.returns
returns g c = λ R. one_list R
