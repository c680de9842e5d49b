use Rattle.std.proofs.Common.{◌+◌, ◌<◌, ap, ◌∙◌, arith}
use Rattle.report_check.specs.Shown.{agreement_below}
use Rattle.report_check.proofs.SlotCounts.{one_at_most, place_more}
use Rattle.report_check.proofs.slots.Slots.sixteen.Goals as goal

pub loop-offset-preserved : goal.loop-offset-preserved
loop-offset-preserved c =
    let place = c.args.start + c.loop-offset.offset in
    let within : place < 256 = omega (arith, c.loop-offset-test.true, c.requires) in
    record {
      few = omega (arith, c.loop-offset.invariant.few, one_at_most _ c.from-count.result c.from-count.ensures);
      so_far = λ m k u word is are has.
          ap (λ t. agreement_below m k u word c.args.start + (c.loop-offset.count + t)) c.from-count.ensures
          ∙ place_more m k u word c.args.self.now.symbols c.args.symbols.now c.args.self.now.known c.args.start c.loop-offset.count c.loop-offset.offset within are has (c.loop-offset.invariant.so_far m k u word is are has);
    }
