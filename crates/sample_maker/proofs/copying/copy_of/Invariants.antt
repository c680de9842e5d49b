use Rattle.std.proofs.Common.{◌≡◌}
use Rattle.sample_maker.specs.Copying.{copy_of}
use Rattle.sample_maker.proofs.copying.copy_of.Given as goal

abbrev pub invariant-loop-i : goal.invariant-loop-i
invariant-loop-i l = l.copy ≡ copy_of l.number l.i
