use Rattle.std.proofs.Common.{◌<◌, ◌%◌, ◌/◌, length, get_or, arith}
use Rattle.std.specs.Prelude.{bit_xor}
use Rattle.gf2m.proofs.Halves.{product_by_parts}
use Rattle.gf2m.proofs.Multiples.{in_range, next_done}
use Rattle.gf2m.proofs.slices.add_rest.Goals as goal

pub invariant_of-target : goal.invariant_of-target
invariant_of-target g c =
    let x = get_or c.loop-place.target c.loop-place.place c.index-target-place.result in
    let y = get_or c.args.source.now c.loop-place.place c.index-source-place.result in
    record {
      in_range = in_range g.row.M c.requires.low c.requires.high c.args.factor x y
          (bit_xor (get_or c.args.low.now (y.value % 16) 0) (get_or c.args.high.now (y.value / 16) 0))
          (product_by_parts g.row.M c.args.factor.value c.args.low.now c.args.high.now c.requires.high c.requires.products y.value y.in_range);
    }

pub loop-place-preserved : goal.loop-place-preserved
loop-place-preserved g c = λ low high xs long begun.
    let y = get_or c.args.source.now c.loop-place.place c.index-source-place.result in
    let room : c.loop-place.place < length c.args.source.now = omega arith in
    let inside : c.loop-place.place < length xs = omega arith in
    next_done g.row.M low high c.args.factor xs c.args.source.now c.loop-place.target c.loop-place.place c.index-target-place.result c.index-source-place.result
    (bit_xor (get_or c.args.low.now (y.value % 16) 0) (get_or c.args.high.now (y.value / 16) 0))
    inside room (product_by_parts g.row.M c.args.factor.value c.args.low.now c.args.high.now c.requires.high c.requires.products y.value y.in_range) _
    (c.loop-place.invariant low high xs long begun)
