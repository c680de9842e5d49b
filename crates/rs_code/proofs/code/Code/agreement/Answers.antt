use Rattle.std.proofs.Common.{◌≡◌, ℕ, length, sym, ap, ◌∙◌, arith}
use Rattle.code_terms.proofs.PlaceLaws.{places_below-none, length-places_below-hit, length-places_below-miss, length-places_below-all}
use Rattle.rs_code.proofs.code.Code.agreement.Goals as goal
use Rattle.rs_code.proofs.code.Code.agreement.Goals.{then-agrees, else-agrees}

pub loop-place-init : goal.loop-place-init
loop-place-init g c = record {
  count = sym (ap length (places_below-none g.F.Field.BITS c.args.self.now.dimension c.args.message c.args.word.now));
  products = omega arith;
  few = omega arith;
}

pub loop-place-preserved : goal.loop-place-preserved
loop-place-preserved g c =
    let place : ℕ = c.loop-place.place in
    let old = c.loop-place.invariant in
    elim c.if-agrees.branch [
      | then-agrees w ↦
          let hit = length-places_below-hit g.F.Field.BITS c.args.self.now.dimension c.args.message c.args.word.now place (sym c.agrees.ensures.value ∙ w.if-agrees.true) in
          record { count = omega (arith, w.count-is, old.count, hit); products = omega (arith, c.agrees.ensures.products, old.products); few = omega (arith, w.count-is, old.few) }
      | else-agrees w ↦
          let miss = length-places_below-miss g.F.Field.BITS c.args.self.now.dimension c.args.message c.args.word.now place (sym c.agrees.ensures.value ∙ w.if-agrees.false) in
          record { count = omega (arith, w.count-is, old.count, miss); products = omega (arith, c.agrees.ensures.products, old.products); few = omega (arith, w.count-is, old.few) }
    ]

pub returns-clause-value : goal.returns-clause-value
returns-clause-value g c =
    let all : length c.args.word.now ≡ c.loop-place.place = omega (arith, ap (λ code. code.places) c.self.view_is) in
    c.loop-place.invariant.count ∙ length-places_below-all g.F.Field.BITS c.args.self.now.dimension c.args.message c.args.word.now c.loop-place.place all
