use Rattle.std.proofs.Common.{◌≡◌, ◌+◌, ◌-◌, ◌*◌, ◌/◌, ap, arith}
use Rattle.decoding_terms.proofs.Sizes.{some_weight}
use Rattle.gs_koetter.proofs.Found.{powers_enough, powers_few, powers_light}
use Rattle.gs_koetter.proofs.koetter.frame.Goals as goal

pub invariant_of-result : goal.invariant_of-result
invariant_of-result c =
    let p = c.args.params.now in
    let positive = some_weight p.w p.rows p.e p.some_weight p.weight in
    let w : c.in_ok-terms.terms.w ≡ p.w = c.in_ok-terms.ensures.w in
    let e : c.in_ok-terms.terms.e ≡ p.e = c.in_ok-terms.ensures.e in
    let few = powers_few p.w p.e p.some_weight positive in
    record {
      orders_by_one = c.in_ok-orders.ensures.w;
      few_weights = omega (arith, w, p.most_weight);
      some_powers = omega arith;
      few_powers = omega (arith, few, p.low_weight);
      all_powers =
          let there : c.in_ok-terms.terms.w * ((p.e - 1) / p.w + 1) ≡ p.w * ((p.e - 1) / p.w + 1) = ap (λ n. n * ((p.e - 1) / p.w + 1)) w in
          omega (arith, there, e, powers_enough p.w p.e p.some_weight positive);
      light_powers =
          let there : c.in_ok-terms.terms.w * ((p.e - 1) / p.w + 1 - 1) ≡ p.w * ((p.e - 1) / p.w + 1 - 1) = ap (λ n. n * ((p.e - 1) / p.w + 1 - 1)) w in
          omega (arith, there, e, powers_light p.w p.e p.some_weight positive);
      x_rows = omega (arith, c.of.ensures.rows, e);
      x_width = c.of.ensures.width;
      y_rows = c.of-2.ensures.rows;
      y_width = c.of-2.ensures.width;
      placed = c.in_ok-cells.ensures;
      turned = c.in_ok-turns.ensures;
    }
