use Rattle.std.proofs.Common.{lit≤}
use Rattle.gf2m.proofs.fields.Gf8Field.add_multiple.Goals as goal

pub returns-clause-value : goal.returns-clause-value
returns-clause-value g c = c.add_multiple.ensures.value (lit≤ tt) (lit≤ tt)
