use Rattle.std.proofs.Common.{◌∙◌, sym, arith}
use Rattle.gs_koetter.proofs.Deriving.{slot_is}
use Rattle.gs_koetter.proofs.points.derive_all.Goals as goal

pub derive-requires-clause-ended : goal.derive-requires-clause-ended
derive-requires-clause-ended g c =
    c.requires.ended c.curves.slot-index c.in-Some.curve
    (sym (c.curves.invariant.rest c.curves.slot-index (omega arith)) ∙ slot_is c.curves.curves c.curves.slot-index c.in-Some.curve c.slot-item.result (omega (arith, c.curves-test.true, c.curves.auto.curves)) c.slot-item.is (c.slot-item.is ∙ c.in-Some.is))
