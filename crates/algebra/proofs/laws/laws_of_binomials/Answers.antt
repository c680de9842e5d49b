use Rattle.algebra.proofs.Binomials.{odd_binomial}
use Rattle.algebra.proofs.laws.laws_of_binomials.Goals as goal

pub returns : goal.returns
returns c = odd_binomial
