use Rattle.std.proofs.Common.{◌≡◌, ◌+◌}
use Rattle.algebra.specs.Sums.{power}
use Rattle.uni_poly.proofs.Filling.{IsFilled}
use Rattle.bi_poly.proofs.shifting.powers.Given as goal

-- The first powers, and the next one.
abbrev pub invariant-powers : goal.invariant-powers
invariant-powers g l = record {
  filled : IsFilled g.F.Field.ring (λ k. power g.F.Field.ring l.g k) l._k l.powers.items;
  next : l.power ≡ power g.F.Field.ring l.g l._k;
  products : l.prods ≡ l.fn.prods + l._k;
}
