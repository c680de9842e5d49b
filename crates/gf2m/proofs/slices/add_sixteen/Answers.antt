use Rattle.std.proofs.Common.{◌≡◌, ◌+◌, ◌<◌, ℕ, length, get_or, ap, ◌∙◌, arith}
use Rattle.gf2m.specs.Elements.{with_multiple}
use Rattle.gf2m.specs.Slices.{zipped_below}
use Rattle.gf2m.proofs.Multiples.{in_range, next_done}
use Rattle.gf2m.proofs.slices.add_sixteen.Goals as goal

pub invariant_of-target : goal.invariant_of-target
invariant_of-target g c =
    let x = get_or c.loop-k.target (c.args.start + c.loop-k.k) c.index-target-start.result in
    let y = get_or c.args.source.now (c.args.start + c.loop-k.k) x in
    record { in_range = in_range g.row.M c.requires.low c.requires.high c.args.factor x y (get_or c.args.products.now c.loop-k.k 0) (c.requires.products c.loop-k.k x c.loop-k-test.true) }

pub loop-k-preserved : goal.loop-k-preserved
loop-k-preserved g c = λ low high xs long begun.
    let d = c.index-target-start.result in
    let room : c.args.start + c.loop-k.k < length c.args.source.now = omega (arith, c.requires.room, c.loop-k-test.true) in
    let inside : c.args.start + c.loop-k.k < length xs = omega arith in
    next_done g.row.M low high c.args.factor xs c.args.source.now c.loop-k.target (c.args.start + c.loop-k.k) d d (get_or c.args.products.now c.loop-k.k 0)
    inside room (c.requires.products c.loop-k.k d c.loop-k-test.true) _ (c.loop-k.invariant low high xs long begun)
    ∙ ap (λ (n : ℕ). zipped_below (with_multiple g.row.M low high c.args.factor) n xs c.args.source.now) (let e : c.args.start + c.loop-k.k + 1 ≡ c.args.start + (c.loop-k.k + 1) = omega arith in e)

pub returns : goal.returns
returns g c = λ low high xs long begun.
    let e : c.loop-k.k ≡ 16 = omega arith in
    c.loop-k.invariant low high xs long begun ∙ ap (λ (n : ℕ). zipped_below (with_multiple g.row.M low high c.args.factor) (c.args.start + n) xs c.args.source.now) e
