use Rattle.std.proofs.Common.{ℕ, [], ◌∷◌, ◌++◌, length, Some, sym, ap, ap₂, ◌∙◌, arith}
use Rattle.code_terms.proofs.PlaceLaws.{codeword_of-none, codeword_of-more, length-codeword_of}
use Rattle.code_terms.proofs.SlotLaws.{HasSymbolsBelow-none, HasSymbolsBelow-push}
use Rattle.rs_code.proofs.FieldSize.{most_elements}
use Rattle.rs_code.proofs.code.Code.codeword.Goals as goal

pub loop-place-init : goal.loop-place-init
loop-place-init g c = record {
  so_far = c.new-slots.ensures.items ∙ sym (codeword_of-none g.F.Field.BITS c.args.self.now.dimension c.args.message);
  below = rw c.new-slots.ensures.items (HasSymbolsBelow-none 256);
  products = omega arith;
}

pub loop-place-preserved : goal.loop-place-preserved
loop-place-preserved g c =
    let place : ℕ = c.loop-place.place in
    let old = c.loop-place.invariant in
    record {
      so_far = c.in_ok-append.ensures.appended ∙ ap₂ (λ slots v. slots ++ Some v ∷ []) old.so_far (c.to.ensures ∙ c.symbol-symbol.ensures.value)
          ∙ sym (codeword_of-more g.F.Field.BITS c.args.self.now.dimension c.args.message place);
      below = rw c.in_ok-append.ensures.appended (HasSymbolsBelow-push 256 c.loop-place.slots.items _ old.below c.append.ensures.byte);
      products = omega (arith, c.symbol-symbol.ensures.products, old.products);
    }

pub over-requires : goal.over-requires
over-requires g c =
    let most = most_elements g.F.Field.BITS g.F.Field.Q g.met.F.Field.size g.met.F.Field.most_bits in
    let long = ap length c.loop-place.invariant.so_far ∙ length-codeword_of g.F.Field.BITS c.args.self.now.dimension c.args.message c.loop-place.place in
    record {
      short = omega (arith, most, long, ap (λ code. code.places) c.self.view_is);
      bytes = c.loop-place.invariant.below;
    }
