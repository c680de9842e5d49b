use Rattle.std.proofs.Common.{◌≡◌, ◌+◌, suc, length, sym, ◌∙◌, ap, subst, arith}
use Rattle.algebra.specs.Sums.{power}
use Rattle.algebra.proofs.Sums.{power_none, power_next}
use Rattle.bi_poly.specs.Rows.{ArePowers}
use Rattle.term_lists.proofs.Pushed.{pushed_count}
use Rattle.term_lists.proofs.PowerTables.{powers_none, powers_push}
use Rattle.term_lists.proofs.tables.powers.Goals as goal

pub powers-init : goal.powers-init
powers-init g c = record {
  count = ap length c.in_ok-powers.ensures.items;
  powers = subst (ArePowers g.F.Field.ring c.args.element) (sym c.in_ok-powers.ensures.items) (powers_none g.F.Field.ring c.args.element);
  next = c.one-power.ensures ∙ sym (power_none g.F.Field.ring c.args.element);
  products = omega arith;
}

pub powers-preserved : goal.powers-preserved
powers-preserved g c =
    let R = g.F.Field.ring in
    let more : suc c.powers._k ≡ c.powers._k + 1 = omega arith in
    record {
      count = omega (arith, ap length c.in_ok-push.ensures.items, pushed_count c.powers.powers.items c.powers.power, c.powers.invariant.count);
      powers =
          subst (ArePowers R c.args.element) (sym c.in_ok-push.ensures.items)
          (powers_push R c.args.element c.powers.powers.items c.powers.power c.powers.invariant.powers (c.powers.invariant.next ∙ ap (power R c.args.element) (sym c.powers.invariant.count)));
      next =
          c.mul-power.ensures.value
          ∙ ap (λ t. R.times c.args.element t) c.powers.invariant.next
          ∙ sym (power_next R c.args.element c.powers._k)
          ∙ ap (power R c.args.element) more;
      products = omega (arith, c.mul-power.ensures.ticks, c.powers.invariant.products);
    }
