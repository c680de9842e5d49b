use Rattle.std.proofs.Common.{◌≤◌, ◌*◌, length, ◌∙◌, arith}
use Rattle.report_check.proofs.SlotCounts.{past_end}
use Rattle.report_check.proofs.slots.Slots.agreement.Goals as goal

pub returns-clause-value : goal.returns-clause-value
returns-clause-value c = λ m k u word is are has.
    let over : length word ≤ 16 * c.loop-group.group = omega (arith, is, c.loop-group-test.false, c.div_ceil-group-end.ensures) in
    c.loop-group.invariant.so_far m k u word is are has ∙ past_end m k u word (16 * c.loop-group.group) over
