use Rattle.algebra.proofs.Sums.{sum_plus, sum_scaled, sum_exchange}
use Rattle.algebra.proofs.laws.laws_of_sums.Goals as goal

pub returns-clause-split : goal.returns-clause-split
returns-clause-split g c = λ R. sum_plus R

pub returns-clause-scale : goal.returns-clause-scale
returns-clause-scale g c = λ R. sum_scaled R

pub returns-clause-exchange : goal.returns-clause-exchange
returns-clause-exchange g c = λ R. sum_exchange R
