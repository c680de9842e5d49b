use Rattle.gs_koetter.proofs.Runs.{IsMoved}
use Rattle.gs_koetter.proofs.raising.times_x.Given as goal

-- The first runs stand.
abbrev pub invariant-runs : goal.invariant-runs
invariant-runs g l = IsMoved g.F.Field.ring l.w l.len l.source l.from l.q l.target
