use Rattle.std.proofs.Common.{◌≡◌, ◌*◌, ◌≤◌, drop, ap₂, arith}
use Rattle.root_terms.specs.YRoots.{number_of}
use Rattle.rr_roots.proofs.Nodes.{few_elements}
use Rattle.rr_roots.proofs.Spelling.{next_fits}
use Rattle.rr_roots.proofs.numbers.number_of.Goals as goal

pub overflow_mul-number : goal.overflow_mul-number
overflow_mul-number g c =
    let met = g.met.F.Field in
    let small : g.F.Field.Q ≤ 256 = few_elements g.F.Field.Q g.F.Field.BITS met.size met.most_bits in
    let fits = next_fits g.F.Field.number g.F.Field.Q met.below small c.args.list.now c.coefficients.i c.index-list-i.result c.coefficients-test.true (omega arith) c.requires c.index-list-i.is in
    let is : c.Q.result * c.coefficients.number ≡ g.F.Field.Q * number_of g.F.Field.number g.F.Field.Q (drop c.coefficients.i c.args.list.now) = ap₂ (λ q n. q * n) c.Q.ensures c.coefficients.invariant in
    omega (arith, fits, is, c.to-digit.ensures)

pub overflow_add-number : goal.overflow_add-number
overflow_add-number g c =
    let met = g.met.F.Field in
    let small : g.F.Field.Q ≤ 256 = few_elements g.F.Field.Q g.F.Field.BITS met.size met.most_bits in
    let fits = next_fits g.F.Field.number g.F.Field.Q met.below small c.args.list.now c.coefficients.i c.index-list-i.result c.coefficients-test.true (omega arith) c.requires c.index-list-i.is in
    let is : c.Q.result * c.coefficients.number ≡ g.F.Field.Q * number_of g.F.Field.number g.F.Field.Q (drop c.coefficients.i c.args.list.now) = ap₂ (λ q n. q * n) c.Q.ensures c.coefficients.invariant in
    omega (arith, fits, is, c.to-digit.ensures)
