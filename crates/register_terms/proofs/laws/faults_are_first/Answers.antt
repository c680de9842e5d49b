use Rattle.register_terms.proofs.FirstFaults.{fault_is_first, first_is_fault}
use Rattle.register_terms.proofs.laws.faults_are_first.Goals as goal

pub returns : goal.returns
returns c = λ bytes f. ((λ is. fault_is_first bytes f is), (λ is. first_is_fault bytes f is))
