use Rattle.curve_terms.proofs.Counted.{counted}
use Rattle.curve_terms.proofs.laws.counted_agreement.Goals as goal

pub returns : goal.returns
returns g c = λ R. counted R
