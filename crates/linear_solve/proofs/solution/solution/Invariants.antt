use Rattle.std.proofs.Common.{◌≡◌, ℕ, ◌+◌, ◌-◌, ◌*◌, ◌<◌, ◌≤◌, length}
use Rattle.algebra.specs.Lists.{coefficients}
use Rattle.system_terms.specs.Systems.{row_times}
use Rattle.linear_solve.specs.Tables.{entries}
use Rattle.linear_solve.specs.Pivots.{rows_of}
use Rattle.linear_solve.proofs.solution.solution.Given as goal

-- The vector solves the rows from j on.
abbrev pub invariant-pivots : goal.invariant-pivots
invariant-pivots g l = record {
  long : length l.vector.items ≡ l.columns;
  solves : (i : ℕ) → l.j ≤ i → i < length l.pivots
      → row_times g.F.Field.ring l.columns (entries g.F.Field.ring (rows_of l.pivots) i) (coefficients g.F.Field.ring l.vector.items) ≡ g.F.Field.ring.nil;
  one : coefficients g.F.Field.ring l.vector.items l.free ≡ g.F.Field.ring.unit;
  products : l.prods ≤ l.fn.prods + (length l.pivots - l.j) * (l.columns + 1);
}
