use Rattle.std.proofs.Common.{◌≡◌, ◌+◌, ◌-◌, ◌≤◌, length}
use Rattle.uni_poly.proofs.Horner.{value_from}
use Rattle.uni_poly.proofs.poly.Poly.eval.Given as goal

-- The value of the coefficients from i on.
abbrev pub invariant-coefficients : goal.invariant-coefficients
invariant-coefficients g l = record {
  value : l.value ≡ value_from g.F.Field.ring l.coefs l.at l.i;
  products : l.prods ≤ l.fn.prods + (length l.coefs - l.i);
}
