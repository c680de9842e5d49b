use Rattle.std.proofs.Common.{◌≡◌, ◌+◌, ◌-◌, ◌*◌, length}
use Rattle.algebra.specs.Lists.{coefficients}
use Rattle.uni_poly.proofs.Multiplying.{IsProductFrom}
use Rattle.uni_poly.proofs.arithmetic.add_product.Given as goal

-- The product of the coefficients from i on.
abbrev pub invariant-factors : goal.invariant-factors
invariant-factors g l = record {
  so_far : IsProductFrom g.F.Field.ring (coefficients g.F.Field.ring l.left) (coefficients g.F.Field.ring l.right) l.i l.target;
  products : l.prods ≡ l.fn.prods + (length l.left - l.i) * length l.right;
}
