use Rattle.std.proofs.Common.{◌≡◌}
use Rattle.pair_terms.specs.Pairs.{pairs_below}
use Rattle.shown_pairs.proofs.word_pairs.pairs_of.Given as goal

-- The pairs of the first places.
abbrev pub invariant-places : goal.invariant-places
invariant-places l = l.pairs.items ≡ pairs_below l.word l.place
