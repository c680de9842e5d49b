use Rattle.std.proofs.Common.{ap, subst, true, false}
use Rattle.shelf_terms.specs.Counts.{Tally}
use Rattle.shelf_terms.specs.Causes.{ReadCauses}
use Rattle.shelf_io.specs.MemShelf.{MemShelfView}
use Rattle.shelf_io.proofs.mem_shelf.MemShelfShelf.part.Goals as goal

abbrev counted : MemShelfView → Tally
counted view = view.counts

pub returns-in-None-clause-causes : goal.returns-in-None-clause-causes
returns-in-None-clause-causes c =
    subst (λ (t : Tally). ReadCauses t c.missed.new.self c.args.name.now false true) (ap counted c.self.view_is) (c.missed.ensures.causes c.args.name.now)
