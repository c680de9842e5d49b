use Rattle.koetter_terms.proofs.Derivatives.{at_first, at_next, at_sum}
use Rattle.koetter_terms.proofs.laws.laws_of_steps.Goals as goal

pub returns-clause-sum : goal.returns-clause-sum
returns-clause-sum g c ring m n x q p a b u v = at_sum ring m n x q p a b u v

pub returns-clause-first : goal.returns-clause-first
returns-clause-first g c ring m n x q below room a b v = at_first ring m n x q below room a b v

pub returns-clause-next : goal.returns-clause-next
returns-clause-next g c ring m n x q below room a b u v = at_next ring m n x q below room a b u v
