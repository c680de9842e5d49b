use Rattle.std.proofs.Common.{◌≡◌}
use Rattle.packager.specs.Marking.{IsNext}
use Rattle.packager.proofs.Segments.{list_to}
use Rattle.packager.proofs.marking.marked_list.Given as goal

abbrev pub invariant-segments : goal.invariant-segments
invariant-segments l = record {
  made : l.list ≡ list_to l.title l.word l.i;
  next : IsNext l.title.design.marked l.i l.next;
}
