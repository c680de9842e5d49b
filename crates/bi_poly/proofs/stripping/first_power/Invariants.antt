use Rattle.std.proofs.Common.{◌≡◌, ℕ, ◌<◌}
use Rattle.algebra.specs.Lists.{coefficients}
use Rattle.bi_poly.proofs.stripping.first_power.Given as goal

-- The coefficients before i are zero.
abbrev pub invariant-coefficients : goal.invariant-coefficients
invariant-coefficients g l = (k : ℕ) → k < l.i → coefficients g.F.Field.ring l.coefs k ≡ g.F.Field.ring.nil
