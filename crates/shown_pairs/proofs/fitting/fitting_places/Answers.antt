use Rattle.std.proofs.Common.{◌<◌, get_or, refl, ◌∙◌, arith}
use Rattle.shown_pairs.proofs.Walking.{at_start, place_within, step, places_next, nothing_placed, all_passed, few_elements}
use Rattle.shown_pairs.proofs.fitting.fitting_places.Goals as goal

pub pairs-init : goal.pairs-init
pairs-init g c = record {
  value = c.new-places.ensures.items ∙ nothing_placed g.F.Field.BITS c.args.code.now.dimension c.args.message;
  walk = at_start g.F.Field.BITS c.args.code.now.dimension c.args.message c.args.code.now.places c.args.pairs.now;
  products = omega arith;
}

pub overflow_cast-place : goal.overflow_cast-place
overflow_cast-place g c = omega (arith, place_within c.args.code.now.places g.F.Field.BITS c.args.code.now.dimension c.args.message c.args.pairs.now c.requires.pairs c.pairs.i (omega arith), c.n-places.ensures.range.1, few_elements g.F.Field.Q g.F.Field.BITS g.met.F.Field.size g.met.F.Field.most_bits, c.n-places.ensures.value)

pub returns-in_err-push_if-clause-products : goal.returns-in_err-push_if-clause-products
returns-in_err-push_if-clause-products g c =
    let within : (get_or c.args.pairs.now c.pairs.i (0, 0)).0 < c.args.code.now.places =
    place_within c.args.code.now.places g.F.Field.BITS c.args.code.now.dimension c.args.message c.args.pairs.now c.requires.pairs c.pairs.i (omega arith) in
    all_passed c.fits-hit.new.walk.passed c.args.code.now.places c.args.code.now.dimension c.args.prods.now c.fits-hit.new.prods (omega (arith, c.fits-hit.ensures.passed))
    (omega (arith, c.pairs.invariant.products, c.fits-hit.ensures.products))

pub pairs-preserved : goal.pairs-preserved
pairs-preserved g c = record {
  value = places_next g.F.Field.BITS c.args.code.now.dimension c.args.message c.args.pairs.now c.pairs.i (omega arith) c.fits-hit.result c.fits-hit.ensures.value c.pairs.places.items c.push_if.new.places.items (get_or c.args.pairs.now c.pairs.i (0, 0)).0 refl c.pairs.invariant.value c.in_ok-push_if.ensures;
  walk = step c.args.code.now.places g.F.Field.BITS c.args.code.now.dimension c.args.message c.args.pairs.now c.requires.pairs c.pairs.i (omega arith) c.fits-hit.new.walk.passed c.fits-hit.new.walk.symbol c.fits-hit.ensures.passed c.fits-hit.ensures.symbol;
  products = omega (arith, c.pairs.invariant.products, c.fits-hit.ensures.products);
}
