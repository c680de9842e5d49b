use Rattle.std.proofs.Common.{◌≡◌, ℕ, ◌<◌, ◌≤◌, length}
use Rattle.std.specs.Prelude.{slice_index_or}
use Rattle.algebra.specs.Lists.{coefficients}
use Rattle.gs_koetter.proofs.raising.shift.Given as goal

-- The first entries stand.
abbrev pub invariant-places : goal.invariant-places
invariant-places g l = record {
  done : (k : ℕ) → k < l.k → coefficients g.F.Field.ring l.target k ≡ coefficients g.F.Field.ring l.source (slice_index_or l.quotients k 0);
  rest : (k : ℕ) → l.k ≤ k → coefficients g.F.Field.ring l.target k ≡ coefficients g.F.Field.ring l.fn.target k;
  count : length l.target ≡ length l.fn.target;
}
