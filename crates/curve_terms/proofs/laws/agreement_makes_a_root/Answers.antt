use Rattle.curve_terms.proofs.Roots.{is_root}
use Rattle.curve_terms.proofs.laws.agreement_makes_a_root.Goals as goal

pub returns : goal.returns
returns g c = λ R field q f points r w e s t light enough different zeros below goes. is_root R field q f points r w e s t light enough different zeros below goes
