use Rattle.std.proofs.Common.{◌≡◌, ℕ, [], ◌∷◌, ◌++◌, length, cond, sym, ap, ap₂, ◌∙◌, arith}
use Rattle.code_terms.proofs.PlaceLaws.{places_below-none, places_below-more, places_below-all}
use Rattle.rs_code.proofs.code.Code.places.Goals as goal

pub loop-place-init : goal.loop-place-init
loop-place-init g c = record {
  so_far = c.new-places.ensures.items ∙ sym (places_below-none g.F.Field.BITS c.args.self.now.dimension c.args.message c.args.word.now);
  products = omega arith;
}

pub loop-place-preserved : goal.loop-place-preserved
loop-place-preserved g c =
    let place : ℕ = c.loop-place.place in
    let old = c.loop-place.invariant in
    record {
      so_far = c.in_ok-push_if.ensures ∙ ap₂ (λ places b. places ++ cond b (place ∷ []) []) old.so_far c.agrees-agrees.ensures.value
          ∙ sym (places_below-more g.F.Field.BITS c.args.self.now.dimension c.args.message c.args.word.now place);
      products = omega (arith, c.agrees-agrees.ensures.products, old.products);
    }

pub returns-clause-value : goal.returns-clause-value
returns-clause-value g c =
    let all : length c.args.word.now ≡ c.loop-place.place = omega (arith, ap (λ code. code.places) c.self.view_is) in
    c.over.ensures ∙ c.loop-place.invariant.so_far ∙ places_below-all g.F.Field.BITS c.args.self.now.dimension c.args.message c.args.word.now c.loop-place.place all
