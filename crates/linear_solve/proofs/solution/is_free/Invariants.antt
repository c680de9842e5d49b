use Rattle.std.proofs.Common.{◌≢◌, ℕ, ◌<◌}
use Rattle.std.specs.Prelude.{slice_index}
use Rattle.linear_solve.specs.Pivots.{columns_of}
use Rattle.linear_solve.proofs.solution.is_free.Given as goal

-- The column is none of the pivots' before.
abbrev pub invariant-pivots : goal.invariant-pivots
invariant-pivots g l = (j : ℕ) → j < l.pivot-index → slice_index (columns_of l.pivots) j ≢ l.column
