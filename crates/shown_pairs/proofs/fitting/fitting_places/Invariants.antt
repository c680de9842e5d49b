use Rattle.std.proofs.Common.{◌≡◌, ◌+◌, ◌*◌, ◌≤◌, take}
use Rattle.pair_terms.specs.Pairs.{fitting_places}
use Rattle.shown_pairs.specs.Walks.{StandsBefore}
use Rattle.shown_pairs.proofs.fitting.fitting_places.Given as goal

-- The places of the first i pairs that fit.
abbrev pub invariant-pairs : goal.invariant-pairs
invariant-pairs g l = record {
  value : l.places.items ≡ fitting_places g.F.Field.BITS l.code.dimension l.message (take l.i l.pairs);
  walk : StandsBefore g.F.Field.BITS l.code.dimension l.message l.code.places l.pairs l.i l.walk.passed l.walk.symbol;
  products : l.prods ≤ l.fn.prods + l.walk.passed * l.code.dimension;
}
