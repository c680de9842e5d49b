use Rattle.std.proofs.Common.{ap, false, true, subst}
use Rattle.shelf_io.specs.Folder.{FolderView}
use Rattle.shelf_terms.specs.Counts.{Tally}
use Rattle.shelf_terms.specs.Causes.{ReadCauses}
use Rattle.shelf_io.proofs.folder_shelf.FolderShelfShelf.part.Goals as goal

abbrev counted : FolderView → Tally
counted view = view.counts

pub returns-then-leaves_folder-clause-causes :
    goal.returns-then-leaves_folder-clause-causes
returns-then-leaves_folder-clause-causes g c =
    subst (λ (t : Tally). ReadCauses t c.missed.new.self c.args.name.now false true) (ap counted c.self.view_is) (c.missed.ensures.causes c.args.name.now)

pub returns-in-NotFound-clause-causes : goal.returns-in-NotFound-clause-causes
returns-in-NotFound-clause-causes g c =
    subst (λ (t : Tally). ReadCauses t c.missed-in-NotFound.new.self c.args.name.now false true) (ap counted c.self.view_is) (c.missed-in-NotFound.ensures.causes c.args.name.now)
