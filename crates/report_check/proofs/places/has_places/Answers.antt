use Rattle.std.proofs.Common.{◌<◌, ◌≤◌, length, sym, arith}
use Rattle.report_check.proofs.PlaceWalks.{remains_first, remains_next, remains_stop, remains_end}
use Rattle.report_check.proofs.StepSums.{turns}
use Rattle.report_check.proofs.places.has_places.Goals as goal

pub places-init : goal.places-init
places-init g c = record {
  walk = remains_first g.F.Field.BITS c.args.code.now.dimension c.args.message c.args.word.now c.args.places.now;
  products = omega arith;
}

pub returns-in-None-clause-value : goal.returns-in-None-clause-value
returns-in-None-clause-value g c =
    let inside : c.places.place < length c.args.word.now = omega (arith, c.places-test.true, c.n-place-end.ensures.value, c.requires.length) in
    sym (remains_stop g.F.Field.BITS c.args.code.now.dimension c.args.message c.args.word.now c.args.places.now c.places.position c.places.place inside c.places.invariant.walk (sym c.in-None.ensures.position))

pub returns-in-None-clause-products : goal.returns-in-None-clause-products
returns-in-None-clause-products g c =
    let inside : c.places.place < c.args.code.now.places = omega (arith, c.places-test.true, c.n-place-end.ensures.value) in
    turns c.args.code.now.dimension _ _ _ inside c.places.invariant.products c.place_after.ensures.products

pub places-preserved : goal.places-preserved
places-preserved g c =
    let inside : c.places.place < length c.args.word.now = omega (arith, c.places-test.true, c.n-place-end.ensures.value, c.requires.length) in
    record {
      walk = remains_next g.F.Field.BITS c.args.code.now.dimension c.args.message c.args.word.now c.args.places.now c.places.position c.places.place c.in-Some.next inside c.places.invariant.walk (sym c.in-Some.ensures.position);
      products = omega (arith, c.places.invariant.products, c.in-Some.ensures.products);
    }

pub returns-clause-value : goal.returns-clause-value
returns-clause-value g c =
    let over : length c.args.word.now ≤ c.places.place = omega (arith, c.places-test.false, c.n-place-end.ensures.value, c.requires.length) in
    remains_end g.F.Field.BITS c.args.code.now.dimension c.args.message c.args.word.now c.args.places.now c.places.position c.places.place over c.places.invariant.walk
