use Rattle.std.proofs.Common.{◌≡◌}
use Rattle.sample_maker.proofs.Lists.{list_to}
use Rattle.sample_maker.proofs.source.source.Given as goal

abbrev pub invariant-loop-place : goal.invariant-loop-place
invariant-loop-place l = l.source ≡ list_to l.place
