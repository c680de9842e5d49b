use Rattle.std.proofs.Common.{◌≡◌, ◌+◌, ◌≤◌, length}
use Rattle.algebra.specs.Sums.{power}
use Rattle.bi_poly.specs.Rows.{ArePowers}
use Rattle.term_lists.proofs.tables.powers.Given as goal

-- The first powers, and the next one.
abbrev pub invariant-powers : goal.invariant-powers
invariant-powers g l = record {
  count : length l.powers.items ≡ l._k;
  powers : ArePowers g.F.Field.ring l.element l.powers.items;
  next : l.power ≡ power g.F.Field.ring l.element l._k;
  products : l.prods ≤ l.fn.prods + l._k;
}
