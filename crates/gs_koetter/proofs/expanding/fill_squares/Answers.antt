use Rattle.std.proofs.Common.{◌≡◌, inl, inr, suc, ◌+◌, ◌^◌, ◌<◌, length, set, refl, ◌∙◌, sym, ap, ap₂, arith}
use Rattle.std.proofs.lemmas.Bool.Decides.{eqb_tells}
use Rattle.std.proofs.lemmas.List.{get_or-set_other, get_or-set_same, length-set}
use Rattle.algebra.specs.Lists.{coefficients}
use Rattle.algebra.specs.Sums.{power}
use Rattle.gs_koetter.proofs.Halves.{square_first, square_next}
use Rattle.gs_koetter.proofs.expanding.fill_squares.Goals as goal

pub squares-init : goal.squares-init
squares-init g c = record {
  done = λ n l. absurd (omega (arith, l));
  next = sym (square_first g.F.Field.ring c.args.element);
  count = refl;
  products = omega arith;
}

pub squares-preserved : goal.squares-preserved
squares-preserved g c =
    let R = g.F.Field.ring in
    let next : suc c.squares.k ≡ c.squares.k + 1 = omega arith in
    let ends : c.len-k-end.result ≡ length c.args.squares.now.items = c.len-k-end.ensures ∙ c.args.squares.now.ok.0 in
    let inside : c.squares.k < length c.squares.squares.items = omega (arith, c.squares-test.true, ends, c.squares.invariant.count) in
    record {
      done = λ n l. elim (eqb_tells n c.squares.k) [
        | inl same ↦
            ap (coefficients R (set c.squares.squares.items c.squares.k c.squares.square)) same.1
            ∙ get_or-set_same c.squares.squares.items c.squares.k c.squares.square R.nil inside
            ∙ c.squares.invariant.next
            ∙ ap (λ k. power R c.args.element (2 ^ k)) (sym same.1)
        | inr apart ↦ get_or-set_other c.squares.squares.items c.squares.k n c.squares.square R.nil apart.1 ∙ c.squares.invariant.done n (omega (arith, l, apart.1))
      ];
      next = c.mul-square.ensures.value ∙ ap₂ R.times c.squares.invariant.next c.squares.invariant.next ∙ sym (square_next R c.args.element c.squares.k) ∙ ap (λ k. power R c.args.element (2 ^ k)) next;
      count = length-set c.squares.squares.items c.squares.k c.squares.square ∙ c.squares.invariant.count;
      products = omega (arith, c.mul-square.ensures.ticks, c.squares.invariant.products);
    }
