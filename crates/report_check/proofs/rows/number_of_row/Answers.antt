use Rattle.std.proofs.Common.{◌*◌, ◌/◌, ◌%◌, ◌^◌, ◌≤◌, ◌<◌, ap, ◌∙◌, arith}
use Rattle.std.proofs.Math.Nat.{mod-eq_of_lt, mul-le-mul}
use Rattle.std.proofs.Math.Pow.{pow_mono}
use Rattle.report_check.proofs.rows.number_of_row.Goals as goal

pub returns : goal.returns
returns c =
    let index = c.args.index in
    let zeros : 4 * (index / 16) ≤ 100 = omega (arith, c.requires) in
    let power : 2 ^ (4 * (index / 16)) ≤ 2 ^ 100 = pow_mono zeros in
    let digit : index % 16 ≤ 15 = omega arith in
    let product : (index % 16) * 2 ^ (4 * (index / 16)) ≤ 15 * 2 ^ 100 = mul-le-mul digit power in
    let below : (index % 16) * 2 ^ (4 * (index / 16)) < 340282366920938463463374607431768211456 = omega (arith, product) in
    ap (λ d. d * 2 ^ (4 * (index / 16)) % 340282366920938463463374607431768211456) c.from.ensures ∙ mod-eq_of_lt below
