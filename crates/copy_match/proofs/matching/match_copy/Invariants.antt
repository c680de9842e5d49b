use Rattle.copy_match.proofs.Progress.{HasRead}
use Rattle.copy_match.proofs.matching.match_copy.Given as goal

abbrev pub invariant-segments : goal.invariant-segments
invariant-segments g l = HasRead l.title l.copy l.reader l.i (g.S.Shelf.store l.fn.shelf) (g.S.Shelf.store l.shelf)
