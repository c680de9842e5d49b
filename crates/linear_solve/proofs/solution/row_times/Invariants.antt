use Rattle.std.proofs.Common.{◌≡◌, ◌+◌, ◌-◌, length}
use Rattle.algebra.specs.Sums.{sum_below}
use Rattle.algebra.specs.Lists.{coefficients}
use Rattle.linear_solve.proofs.solution.row_times.Given as goal

-- The sum of the products from column k on.
abbrev pub invariant-columns : goal.invariant-columns
invariant-columns g l = record {
  value : l.sum ≡ sum_below g.F.Field.ring (length l.row - l.k)
      (λ i. g.F.Field.ring.times (coefficients g.F.Field.ring l.row (l.k + i)) (coefficients g.F.Field.ring l.vector (l.k + i)));
  products : l.prods ≡ l.fn.prods + (length l.row - l.k);
}
