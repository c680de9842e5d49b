use Rattle.std.proofs.Common.{◌≡◌, ℕ, ◌<◌, length}
use Rattle.algebra.specs.Lists.{coefficients}
use Rattle.gs_koetter.proofs.derivatives.clear.Given as goal

-- The first entries are zero.
abbrev pub invariant-places : goal.invariant-places
invariant-places g l = record {
  done : (n : ℕ) → n < l.k → coefficients g.F.Field.ring l.table n ≡ g.F.Field.ring.nil;
  count : length l.table ≡ length l.fn.table;
}
