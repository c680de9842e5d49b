use Rattle.std.proofs.Common.{◌≡◌, ◌+◌, ◌-◌, ◌<◌, ◌≤◌, if◌then◌else◌, length}
use Rattle.algebra.specs.Binomials.{has_bits}
use Rattle.algebra.specs.Lists.{coefficients}
use Rattle.algebra.proofs.Horner.{nested_from}
use Rattle.bi_poly.proofs.derivatives.derivative.Given as goal

-- The value of the coefficients from i on whose binomials are odd. Where u is past the end, i stays at the end.
abbrev pub invariant-coefficients : goal.invariant-coefficients
invariant-coefficients g l = record {
  value : l.value ≡ nested_from g.F.Field.ring (length l.coefs) (λ i. if has_bits i l.u then coefficients g.F.Field.ring l.coefs i else g.F.Field.ring.nil) l.a l.i;
  place : l.i < length l.coefs → l.u ≤ l.i;
  products : l.prods ≤ l.fn.prods + (length l.coefs - l.i);
}
