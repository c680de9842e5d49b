use Rattle.std.proofs.Common.{◌≡◌, ◌+◌, suc, length, sym, ap, subst, ◌∙◌, arith}
use Rattle.algebra.specs.Sums.{power}
use Rattle.algebra.proofs.Sums.{power_none, power_next}
use Rattle.uni_poly.proofs.Filling.{IsFilled, filled_push}
use Rattle.bi_poly.proofs.shifting.powers.Goals as goal

pub powers-preserved : goal.powers-preserved
powers-preserved g c =
    let R = g.F.Field.ring in
    let more : suc c.powers._k ≡ c.powers._k + 1 = omega arith in
    record {
      filled =
          subst (IsFilled R (λ k. power R c.args.g k) (c.powers._k + 1)) (sym c.in_ok-push.ensures.items)
          (filled_push R (λ k. power R c.args.g k) c.powers._k c.powers.powers.items c.powers.power c.powers.invariant.filled c.powers.invariant.next);
      next =
          c.mul-power.ensures.value
          ∙ R.times_comm c.powers.power c.args.g
          ∙ ap (λ t. R.times c.args.g t) c.powers.invariant.next
          ∙ sym (power_next R c.args.g c.powers._k)
          ∙ ap (power R c.args.g) more;
      products = omega (arith, c.mul-power.ensures.ticks);
    }

pub powers-init : goal.powers-init
powers-init g c = record {
  filled = record { count = ap length c.in_ok-powers.ensures.items; each = λ k l. absurd (omega arith) };
  next = c.one-power.ensures ∙ sym (power_none g.F.Field.ring c.args.g);
  products = omega arith;
}
