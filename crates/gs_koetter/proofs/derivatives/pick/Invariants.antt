use Rattle.std.proofs.Common.{◌≡◌, ℕ, ◌+◌, ◌*◌, ◌<◌, length}
use Rattle.algebra.specs.Lists.{coefficients}
use Rattle.term_lists.specs.Places.{exponents_at}
use Rattle.gs_koetter.proofs.derivatives.pick.Given as goal

-- The first orders stand.
abbrev pub invariant-orders : goal.invariant-orders
invariant-orders g l = record {
  done : (n : ℕ) → n < l.k → coefficients g.F.Field.ring l.tile n
      ≡ coefficients g.F.Field.ring l.table ((exponents_at l.orders.terms.items n).y * l.orders.e + (exponents_at l.orders.terms.items n).x);
  count : length l.tile ≡ length l.fn.tile;
}
