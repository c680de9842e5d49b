use Rattle.std.proofs.Common.{arith}
use Rattle.sample_maker.proofs.Held.{held_more}
use Rattle.sample_maker.proofs.holding.hold_variants.Goals as goal

pub loop-variant-preserved : goal.loop-variant-preserved
loop-variant-preserved c =
    held_more c.args.number c.loop-variant.variant c.loop-variant.shelf.blobs c.hold_variant.new.shelf.blobs (omega (arith, c.loop-variant-test.true, c.requires.few)) c.loop-variant.invariant c.in_ok-hold_variant.ensures
