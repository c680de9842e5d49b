use Rattle.gs_koetter.proofs.Prefixes.{front_added}
use Rattle.gs_koetter.proofs.cancelling.add_front.Goals as goal

pub returns-clause-sum : goal.returns-clause-sum
returns-clause-sum g c = front_added g.F.Field.ring c.args.len c.args.factor c.args.target.now c.args.source.now c.add_multiple.new.target c.requires.inside c.requires.room c.requires.rest c.add_multiple.ensures.value
