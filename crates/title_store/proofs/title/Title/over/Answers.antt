use Rattle.title_store.proofs.Wholes.{whole}
use Rattle.title_store.proofs.title.Title.over.Goals as goal

pub invariant_of-result : goal.invariant_of-result
invariant_of-result c = whole (record { design = c.args.design; list = c.args.list; cells = c.args.table }) c.requires.build c.requires.full c.len.ensures.distinct
