use Rattle.std.proofs.Common.{◌≡◌, ◌+◌, ◌-◌, ◌*◌, ℕ, suc, length, ap, subst, ◌∙◌, arith}
use Rattle.algebra.specs.Lists.{coefficients}
use Rattle.algebra.proofs.CoefficientLists.{coefficients_below}
use Rattle.uni_poly.proofs.Filling.{read_at}
use Rattle.uni_poly.proofs.Multiplying.{IsProductFrom, no_product, more_product, whole_product}
use Rattle.uni_poly.proofs.arithmetic.add_product.Goals as goal

pub factors-init : goal.factors-init
factors-init g c =
    let R = g.F.Field.ring in
    let none : length c.args.left.now - length c.args.left.now ≡ 0 = omega arith in
    let zero : (length c.args.left.now - length c.args.left.now) * length c.args.right.now ≡ 0 = ap (λ n. n * length c.args.right.now) none ∙ omega arith in
    record {
      so_far = no_product R (coefficients R c.args.left.now) (coefficients R c.args.right.now) (length c.args.left.now) c.args.target.now c.requires.zeros (coefficients_below R c.args.left.now);
      products = omega arith;
    }

pub factors-preserved : goal.factors-preserved
factors-preserved g c =
    let R = g.F.Field.ring in
    let i : ℕ = c.factors.i - 1 in
    let next : c.factors.i ≡ suc i = omega arith in
    let p : ℕ → g.row.F.Denot = coefficients R c.args.left.now in
    let q : ℕ → g.row.F.Denot = coefficients R c.args.right.now in
    let old : IsProductFrom R p q (suc i) c.factors.target = subst (λ n. IsProductFrom R p q n c.factors.target) next c.factors.invariant.so_far in
    let factor : c.index-left-i.result ≡ p i = read_at R c.args.left.now i c.index-left-i.result (omega arith) c.index-left-i.is in
    let count : length c.args.left.now - i ≡ (length c.args.left.now - c.factors.i) + 1 = omega arith in
    record {
      so_far =
          more_product R p q i c.factors.target c.add_shifted.new.target old c.add_shifted.ensures.before
          (λ k. c.add_shifted.ensures.from k ∙ ap (λ x. R.plus (coefficients R c.factors.target (i + k)) (R.times x (q k))) factor);
      products =
          let each : (length c.args.left.now - i) * length c.args.right.now ≡ (length c.args.left.now - c.factors.i) * length c.args.right.now + length c.args.right.now =
          ap (λ n. n * length c.args.right.now) count ∙ omega arith in
          omega (arith, c.add_shifted.ensures.products, c.factors.invariant.products);
    }

pub returns-clause-value : goal.returns-clause-value
returns-clause-value g c =
    let R = g.F.Field.ring in
    let p : ℕ → g.row.F.Denot = coefficients R c.args.left.now in
    let q : ℕ → g.row.F.Denot = coefficients R c.args.right.now in
    let start : c.factors.i ≡ 0 = omega arith in
    whole_product R p q c.factors.target (subst (λ n. IsProductFrom R p q n c.factors.target) start c.factors.invariant.so_far)
