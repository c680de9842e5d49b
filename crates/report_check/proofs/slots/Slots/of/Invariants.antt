use Rattle.report_check.proofs.RowSteps.{SlotsBelow}
use Rattle.report_check.proofs.slots.Slots.of.Given as goal

abbrev pub invariant-loop-place : goal.invariant-loop-place
invariant-loop-place l = SlotsBelow l.word l.symbols l.known l.place
