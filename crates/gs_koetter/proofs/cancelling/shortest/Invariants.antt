use Rattle.gs_koetter.proofs.Pivots.{SoFar}
use Rattle.gs_koetter.proofs.cancelling.shortest.Given as goal

-- The pivot among the curves so far.
abbrev pub invariant-curves : goal.invariant-curves
invariant-curves g l = SoFar g.F.Field.ring l.place l.curves l.j l.best
