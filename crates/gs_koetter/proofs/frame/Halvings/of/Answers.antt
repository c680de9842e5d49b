use Rattle.std.proofs.Common.{◌≡◌, ◌+◌, ◌*◌, ◌^◌, suc, ap, ◌∙◌, arith}
use Rattle.gs_koetter.proofs.Halves.{double}
use Rattle.gs_koetter.proofs.frame.Halvings.of.Goals as goal

pub halvings-preserved : goal.halvings-preserved
halvings-preserved c =
    let next : c.halvings.count + 1 ≡ suc c.halvings.count = omega arith in
    let power : 2 ^ (c.halvings.count + 1) ≡ 2 ^ c.halvings.count + 2 ^ c.halvings.count = ap (λ k. 2 ^ k) next ∙ double c.halvings.count in
    let wide : 2 ^ (c.halvings.count + 1) * c.args.width ≡ (2 ^ c.halvings.count + 2 ^ c.halvings.count) * c.args.width = ap (λ k. k * c.args.width) power in
    record {
      height = omega (arith, power);
      span = omega (arith, wide);
      more = omega arith;
      few = omega arith;
      low = omega arith;
    }
