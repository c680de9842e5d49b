use Rattle.std.proofs.Common.{◌+◌, ◌*◌, ◌∙◌, ap₂, arith}
use Rattle.std.proofs.lemmas.Nat.{div-mul-add, mod-mul-add}
use Rattle.gs_koetter.proofs.Laying.{cell_inside}
use Rattle.gs_koetter.proofs.frame.turns.Goals as goal

pub returns : goal.returns
returns c = record {
  count = omega (arith, c.places.invariant.count, c.places-test.false);
  each = λ j u l m.
      let inside = cell_inside c.args.width c.args.side j u l m in
      c.places.invariant.each (j * c.args.side + u) (omega (arith, inside, c.places-test.false))
      ∙ ap₂ (λ x y. x * c.args.width + y) (mod-mul-add j c.args.side u m) (div-mul-add j c.args.side u m);
}
