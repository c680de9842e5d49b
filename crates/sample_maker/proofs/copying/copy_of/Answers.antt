use Rattle.std.proofs.Common.{refl, rules, arith}
use Rattle.sample_maker.proofs.Copies.{copy_begun, copy_more, list_long}
use Rattle.sample_maker.proofs.copying.copy_of.Goals as goal

pub loop-i-init : goal.loop-i-init
loop-i-init c = copy_begun c.args.number c.unwrap-copy.result (search rules)

pub segment_at-requires : goal.segment_at-requires
segment_at-requires c =
    list_long c.args.number _ _ c.list_at-list.result.now c.list_at-list.ensures (omega arith)

pub loop-i-preserved : goal.loop-i-preserved
loop-i-preserved c =
    copy_more c.args.number c.loop-i.i _ c.list_at-list.result.now c.loop-i.copy c.put.new.list c.in_ok-segment.segment
    (omega (arith, c.loop-i-test.true)) refl c.list_at-list.ensures c.in_ok-segment.ensures c.loop-i.invariant c.in_ok-put.ensures
