use Rattle.std.proofs.Common.{◌≡◌, ◌+◌, ◌*◌, ◌≤◌, take}
use Rattle.pair_terms.specs.Pairs.{fitting_count}
use Rattle.shown_pairs.specs.Walks.{StandsBefore}
use Rattle.shown_pairs.proofs.fitting.fitting_count.Given as goal

-- How many of the first i pairs fit.
abbrev pub invariant-pairs : goal.invariant-pairs
invariant-pairs g l = record {
  value : l.count ≡ fitting_count g.F.Field.BITS l.code.dimension l.message (take l.i l.pairs);
  few : l.count ≤ l.i;
  walk : StandsBefore g.F.Field.BITS l.code.dimension l.message l.code.places l.pairs l.i l.walk.passed l.walk.symbol;
  products : l.prods ≤ l.fn.prods + l.walk.passed * l.code.dimension;
}
