use Rattle.std.proofs.Common.{◌≡◌, ℕ, ◌≤◌}
use Rattle.algebra.specs.Lists.{coefficients}
use Rattle.uni_poly.proofs.poly.significant.Given as goal

-- From i on there are only zeros.
abbrev pub invariant-zeros : goal.invariant-zeros
invariant-zeros g l = (k : ℕ) → l.i ≤ k → coefficients g.F.Field.ring l.coefs k ≡ g.F.Field.ring.nil
