use Rattle.std.proofs.Common.{◌+◌, ◌*◌, ◌≤◌, arith}
use Rattle.algebra.specs.Bivariate.{greatest, weight_by, x_power}
use Rattle.algebra.proofs.Entries.{greatest_at, greatest_least}
use Rattle.bench_curves.proofs.roots.Goals as goal

pub poly_roots-requires-clause-x : goal.poly_roots-requires-clause-x
poly_roots-requires-clause-x g c =
    let q = c.in_ok-curve.curve in
    let p = c.args.chosen.now in
    let less : greatest x_power q ≤ greatest (weight_by p.w) q =
    greatest_least x_power q (greatest (weight_by p.w) q) (λ i j n. let there : i + p.w * j ≤ greatest (weight_by p.w) q = greatest_at (weight_by p.w) q i j n in omega arith) in
    omega (arith, less, c.in_ok-curve.ensures.light, p.low_weight)
