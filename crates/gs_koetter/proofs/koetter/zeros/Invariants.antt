use Rattle.std.proofs.Common.{◌≡◌, replicate}
use Rattle.gs_koetter.proofs.koetter.zeros.Given as goal

-- The zeros so far.
abbrev pub invariant-places : goal.invariant-places
invariant-places g l = l.list.items ≡ replicate l._place g.F.Field.ring.nil
