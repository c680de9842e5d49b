use Rattle.sample_maker.specs.Holding.{HoldsVariants}
use Rattle.sample_maker.proofs.holding.hold_variants.Given as goal

abbrev pub invariant-loop-variant : goal.invariant-loop-variant
invariant-loop-variant l = HoldsVariants l.number l.shelf.blobs l.variant
