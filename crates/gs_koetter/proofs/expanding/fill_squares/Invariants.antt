use Rattle.std.proofs.Common.{◌≡◌, ℕ, ◌+◌, ◌^◌, ◌<◌, ◌≤◌, length}
use Rattle.algebra.specs.Lists.{coefficients}
use Rattle.algebra.specs.Sums.{power}
use Rattle.gs_koetter.proofs.expanding.fill_squares.Given as goal

-- The first squares stand, and the next one.
abbrev pub invariant-squares : goal.invariant-squares
invariant-squares g l = record {
  done : (n : ℕ) → n < l.k → coefficients g.F.Field.ring l.squares.items n ≡ power g.F.Field.ring l.fn.element (2 ^ n);
  next : l.square ≡ power g.F.Field.ring l.fn.element (2 ^ l.k);
  count : length l.squares.items ≡ length l.fn.squares.items;
  products : l.prods ≤ l.fn.prods + l.k;
}
