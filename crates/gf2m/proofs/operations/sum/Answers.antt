use lib.Bits.{xor_lt}
use Rattle.gf2m.proofs.operations.sum.Goals as goal

pub invariant_of-result : goal.invariant_of-result
invariant_of-result g c = record { in_range = xor_lt g.row.M c.args.x.value c.args.y.value c.args.x.in_range c.args.y.in_range }
