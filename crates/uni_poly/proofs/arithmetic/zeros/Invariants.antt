use Rattle.uni_poly.proofs.Filling.{IsFilled}
use Rattle.uni_poly.proofs.arithmetic.zeros.Given as goal

-- The first zeros.
abbrev pub invariant-zeros : goal.invariant-zeros
invariant-zeros g l = IsFilled g.F.Field.ring (λ k. g.F.Field.ring.nil) l._place l.zeros.items
