use Rattle.std.proofs.Common.{◌≡◌, ℕ, ◌<◌}
use Rattle.algebra.specs.Bivariate.{coefficient}
use Rattle.rr_roots.proofs.branches.vanishes_below.Given as goal

-- The first i coefficients are zero.
abbrev pub invariant-powers : goal.invariant-powers
invariant-powers g l = (k : ℕ) → k < l.i → coefficient g.F.Field.ring l.q k 0 ≡ g.F.Field.ring.nil
