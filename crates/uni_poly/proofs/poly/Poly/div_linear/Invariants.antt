use Rattle.std.proofs.Common.{◌≡◌, ℕ, ◌+◌, ◌-◌, ◌≤◌, length, suc}
use Rattle.algebra.specs.Lists.{coefficients}
use Rattle.uni_poly.proofs.Horner.{value_from}
use Rattle.uni_poly.proofs.poly.Poly.div_linear.Given as goal

-- From i on the quotient's coefficients stand, and the rest is the value of the polynomial's.
abbrev pub invariant-coefficients : goal.invariant-coefficients
invariant-coefficients g l = record {
  count : length l.quotient.items ≡ length l.coefs;
  quotient : (k : ℕ) → l.i ≤ k → coefficients g.F.Field.ring l.quotient.items k ≡ value_from g.F.Field.ring l.coefs l.a (suc k);
  rest : l.rest ≡ value_from g.F.Field.ring l.coefs l.a l.i;
  products : l.prods ≤ l.fn.prods + (length l.coefs - l.i);
}
