use Rattle.std.proofs.Common.{◌≡◌, length}
use Rattle.bench_systems.proofs.fill_row.Given as goal

-- The matrix keeps its size.
abbrev pub invariant-columns : goal.invariant-columns
invariant-columns g l = (length l.matrix.rows ≡ length l.fn.matrix.rows) × (l.matrix.columns ≡ l.fn.matrix.columns)
