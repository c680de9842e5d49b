use Rattle.packager.proofs.Titles.{held_by, told_stays}
use Rattle.packager.proofs.making.make_title.Goals as goal

pub returns-clause-held : goal.returns-clause-held
returns-clause-held g c = held_by c.args.design c.args.source _ _ _ _ _ c.titled.ensures

pub returns-clause-same : goal.returns-clause-same
returns-clause-same g c = told_stays c.args.design c.args.source _ _ _ c.titled.ensures
