use Rattle.std.proofs.Common.{◌+◌, ◌*◌, ◌<◌, ◌≤◌, subst, sym, arith}
use Rattle.shown_pairs.specs.declared.walk.Walk.{Walk}
use Rattle.shown_pairs.proofs.Walking.{passed_more}
use Rattle.shown_pairs.proofs.walk.fits.Goals as goal
use Rattle.shown_pairs.proofs.walk.fits.Goals.{then-place-walk, else-place-walk}

pub returns-clause-products : goal.returns-clause-products
returns-clause-products g c = elim c.if-place-walk.branch [
  | then-place-walk w ↦
      let fewer : c.args.walk.now.passed < c.args.place + 1 = omega (arith, c.requires.ahead, w.if-place-walk.true) in
      let cost = passed_more c.args.walk.now.passed c.args.place c.args.code.now.dimension c.args.prods.now w.symbol.new.prods fewer w.symbol.ensures.products in
      subst (λ (walk : Walk). c.if-place-walk.prods + c.args.walk.now.passed * c.args.code.now.dimension ≤ c.args.prods.now + walk.passed * c.args.code.now.dimension) (sym w.walk-is) (omega (arith, cost, w.prods-is))
  | else-place-walk w ↦
      subst (λ (walk : Walk). c.if-place-walk.prods + c.args.walk.now.passed * c.args.code.now.dimension ≤ c.args.prods.now + walk.passed * c.args.code.now.dimension) (sym w.walk-is) (omega (arith, w.prods-is))
]
