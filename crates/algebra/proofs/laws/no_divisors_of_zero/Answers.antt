use Rattle.algebra.proofs.Fields.{domain}
use Rattle.algebra.proofs.laws.no_divisors_of_zero.Goals as goal

pub returns : goal.returns
returns g c = λ R field. domain R field
