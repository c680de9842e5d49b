use Rattle.std.proofs.Common.{length, ap, rules, arith}
use Rattle.std.proofs.lemmas.List.{length-take}
use Rattle.std.proofs.lemmas.Grind.{common_steps}
use Rattle.code_terms.proofs.SlotLaws.{HasSymbolsBelow-push}
use Rattle.rs_code.proofs.word.Word.of.Goals as goal

pub loop-slot-preserved : goal.loop-slot-preserved
loop-slot-preserved c = record { so_far = search (rules, common_steps); below = rw c.in_ok-append.ensures.appended (HasSymbolsBelow-push 256 c.loop-slot.copy.items _ c.loop-slot.invariant.below c.append.ensures.byte) }

pub invariant_of-result : goal.invariant_of-result
invariant_of-result c = record { short = omega (arith, ap length c.loop-slot.invariant.so_far, length-take c.loop-slot.slot-index c.args.slots.now); bytes = c.loop-slot.invariant.below }
