use Rattle.std.proofs.Common.{◌≡◌, ◌+◌, ◌≤◌, ℕ, true, if◌then◌else◌, length, sym, ap, ◌∙◌, arith}
use Rattle.std.specs.Prelude.{bit_and}
use Rattle.std.proofs.lemmas.Bool.{eq-eqb}
use Rattle.algebra.specs.Binomials.{has_bits}
use Rattle.algebra.specs.Bivariate.{weight}
use Rattle.algebra.specs.Lists.{coefficients}
use Rattle.algebra.specs.Sums.{sum_below}
use Rattle.algebra.proofs.CoefficientLists.{trimmed_length}
use Rattle.bi_poly.proofs.RowDerivatives.{sum_trimmed}
use Rattle.bi_poly.proofs.derivatives.derivative_where_odd.Goals as goal

pub returns-then-j-v-clause-value : goal.returns-then-j-v-clause-value
returns-then-j-v-clause-value g c n past =
    let R = g.F.Field.ring in
    let p : ℕ → g.row.F.Denot = coefficients R c.args.row.now in
    let odd : has_bits c.args.j c.args.v ≡ true = eq-eqb (bit_and c.args.j c.args.v) c.args.v c.if-j-v.true in
    c.derivative.ensures.value
    ∙ sum_trimmed R p (λ i. weight R c.args.a i c.args.u) c.trimmed.result.now n c.trimmed.ensures past
    ∙ ap (λ b. if b then sum_below R n (λ i. R.times (p i) (weight R c.args.a i c.args.u)) else R.nil) (sym odd)

pub returns-then-j-v-clause-products : goal.returns-then-j-v-clause-products
returns-then-j-v-clause-products g c d past =
    let few : length c.trimmed.result.now ≤ d + 1 =
    trimmed_length g.F.Field.ring (d + 1) c.trimmed.result.now c.trimmed.ensures.trimmed (λ k l. c.trimmed.ensures.each k ∙ past k (omega arith)) in
    omega (arith, c.derivative.ensures.products)
