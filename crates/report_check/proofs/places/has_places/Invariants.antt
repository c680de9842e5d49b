use Rattle.std.proofs.Common.{◌+◌, ◌*◌, ◌≤◌}
use Rattle.report_check.proofs.PlaceWalks.{Remains}
use Rattle.report_check.proofs.places.has_places.Given as goal

abbrev pub invariant-places : goal.invariant-places
invariant-places g l = record {
  walk : Remains g.F.Field.BITS l.code.dimension l.message l.word l.places l.position l.place;
  products : l.prods ≤ l.fn.prods + l.place * l.code.dimension;
}
