use Rattle.std.proofs.Common.{◌≡◌, length}
use Rattle.bench_systems.proofs.filled.Given as goal

-- The matrix keeps its size.
abbrev pub invariant-rows : goal.invariant-rows
invariant-rows g l = (length l.matrix.rows ≡ l.job.rows) × (l.matrix.columns ≡ l.job.columns)
