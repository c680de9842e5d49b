use Rattle.std.proofs.Common.{◌≡◌, ◌∙◌, ap, rules, arith}
use Rattle.sample_maker.proofs.Lists.{list_to, list_begun, list_more, list_whole}
use Rattle.sample_maker.proofs.source.source.Goals as goal

pub loop-place-init : goal.loop-place-init
loop-place-init c = list_begun c.unwrap-source.result (search rules)

pub loop-place-preserved : goal.loop-place-preserved
loop-place-preserved c =
    list_more c.loop-place.place c.loop-place.source c.put.new.list c.in_ok-segment.segment c.loop-place.invariant c.in_ok-segment.ensures c.in_ok-put.ensures

pub returns : goal.returns
returns c =
    let all : c.loop-place.place ≡ 64 = omega (arith, c.loop-place-test.false, c.loop-place.auto.place-end) in
    c.loop-place.invariant ∙ ap list_to all ∙ list_whole
