use Rattle.std.proofs.Common.{◌≡◌, drop}
use Rattle.root_terms.specs.YRoots.{number_of}
use Rattle.rr_roots.proofs.numbers.number_of.Given as goal

-- The number of the coefficients from i on.
abbrev pub invariant-coefficients : goal.invariant-coefficients
invariant-coefficients g l = l.number ≡ number_of g.F.Field.number g.F.Field.Q (drop l.i l.list)
