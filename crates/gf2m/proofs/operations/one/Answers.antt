use Rattle.gf_terms.proofs.Field.{one_below}
use Rattle.gf2m.proofs.operations.one.Goals as goal

pub invariant_of-result : goal.invariant_of-result
invariant_of-result g c = record { in_range = one_below g.row.M c.requires.low c.requires.high }
