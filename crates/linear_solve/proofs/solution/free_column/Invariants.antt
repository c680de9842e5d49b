use Rattle.std.proofs.Common.{◌≢◌, ℕ, ◌<◌, length}
use Rattle.std.specs.Prelude.{slice_index}
use Rattle.linear_solve.specs.Pivots.{columns_of}
use Rattle.linear_solve.proofs.solution.free_column.Given as goal

-- No column so far is free.
abbrev pub invariant-loop-column : goal.invariant-loop-column
invariant-loop-column g l = (k : ℕ) → k < l.column → ((j : ℕ) → j < length l.pivots → slice_index (columns_of l.pivots) j ≢ k) → ⊥
