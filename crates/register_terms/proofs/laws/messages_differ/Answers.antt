use Rattle.std.proofs.Common.{◌*◌, arith}
use Rattle.std.proofs.lemmas.Nat.{pow_pos}
use Rattle.register_terms.proofs.Messages.{messages_differ, enrolled-below}
use Rattle.register_terms.proofs.laws.messages_differ.Goals as goal

pub returns-clause-apart : goal.returns-clause-apart
returns-clause-apart c = λ e valid i j i_in j_in. messages_differ e valid i j (enrolled-below e valid i i_in) (enrolled-below e valid j j_in)

pub returns-clause-below : goal.returns-clause-below
returns-clause-below c = λ e valid serial. let some = pow_pos (e.bits * e.dimension) in omega arith
