use Rattle.algebra.specs.Lists.{coefficients}
use Rattle.uni_poly.proofs.Filling.{IsFilled}
use Rattle.uni_poly.proofs.poly.Poly.add.Given as goal

-- The first i sums.
abbrev pub invariant-coefficients : goal.invariant-coefficients
invariant-coefficients g l = IsFilled g.F.Field.ring (λ k. g.F.Field.ring.plus (coefficients g.F.Field.ring l.self k) (coefficients g.F.Field.ring l.other k)) l.i l.sum.items
