use Rattle.std.proofs.Common.{◌≡◌, length}
use Rattle.bench_curves.proofs.slices.Given as goal

-- The slices stay as long as each other.
abbrev pub invariant-rounds : goal.invariant-rounds
invariant-rounds g l = length l.xs.items ≡ length l.ys.items
