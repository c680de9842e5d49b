use Rattle.algebra.proofs.Fields.{domain}
use Rattle.coalition_terms.proofs.SameValues.{same_values}
use Rattle.coalition_terms.proofs.laws.values_tell_polynomials.Goals as goal

pub returns : goal.returns
returns g c = λ R field. same_values R (domain R field)
