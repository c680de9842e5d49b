use Rattle.std.proofs.Common.{◌≡◌, length}
use Rattle.bench_curves.proofs.coalition.Given as goal

-- A point for each number so far.
abbrev pub invariant-points : goal.invariant-points
invariant-points g l = length l.points.items ≡ l.i
