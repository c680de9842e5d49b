use Rattle.std.proofs.Common.{arith}
use Rattle.shown_pairs.proofs.Walking.{at_start, step, count_next, nothing_counted, one_more}
use Rattle.shown_pairs.proofs.fitting.fitting_count.Goals as goal

pub pairs-init : goal.pairs-init
pairs-init g c = record {
  value = nothing_counted g.F.Field.BITS c.args.code.now.dimension c.args.message;
  few = omega arith;
  walk = at_start g.F.Field.BITS c.args.code.now.dimension c.args.message c.args.code.now.places c.args.pairs.now;
  products = omega arith;
}

pub pairs-preserved : goal.pairs-preserved
pairs-preserved g c = record {
  value = count_next g.F.Field.BITS c.args.code.now.dimension c.args.message c.args.pairs.now c.pairs.i (omega arith) c.fits-hit.result c.fits-hit.ensures.value c.pairs.count c.pairs.invariant.value;
  few = one_more c.fits-hit.result c.pairs.count c.pairs.i c.pairs.invariant.few;
  walk = step c.args.code.now.places g.F.Field.BITS c.args.code.now.dimension c.args.message c.args.pairs.now c.requires.pairs c.pairs.i (omega arith) c.fits-hit.new.walk.passed c.fits-hit.new.walk.symbol c.fits-hit.ensures.passed c.fits-hit.ensures.symbol;
  products = omega (arith, c.pairs.invariant.products, c.fits-hit.ensures.products);
}
