use Rattle.std.proofs.Common.{◌≡◌, length}
use Rattle.decoder_tests.proofs.both_interpolators.points_of.Given as goal

abbrev pub invariant-points : goal.invariant-points
invariant-points g l = length l.points.items ≡ l.i
