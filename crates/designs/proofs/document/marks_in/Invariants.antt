use Rattle.std.proofs.Common.{◌≡◌, ◌++◌, drop}
use Rattle.toml.specs.View.{items_view}
use Rattle.title_terms.specs.DesignText.{marks_said}
use Rattle.designs.proofs.document.marks_in.Given as goal

abbrev pub invariant-items : goal.invariant-items
invariant-items l = l.marks.items ++ marks_said (items_view (drop l.item-index l.items.items)) ≡ marks_said (items_view l.items.items)
