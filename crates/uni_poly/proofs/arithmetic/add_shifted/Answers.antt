use Rattle.uni_poly.proofs.Multiplying.{added_from}
use Rattle.uni_poly.proofs.arithmetic.add_shifted.Goals as goal

pub returns-clause-from : goal.returns-clause-from
returns-clause-from g c = added_from g.F.Field.ring c.args.target.now c.args.source.now c.add_multiple.new.target c.args.factor c.args.at c.requires c.add_multiple.ensures.value
