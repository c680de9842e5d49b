use Rattle.std.proofs.Common.{◌≡◌, ◌+◌, ◌-◌, ◌<◌, ◌≤◌, ℕ, length, ap, ap₂, sym, ◌∙◌, arith}
use Rattle.std.proofs.lemmas.List.{get_or_default}
use Rattle.algebra.specs.Lists.{coefficients}
use Rattle.algebra.specs.Sums.{sum_below}
use Rattle.algebra.proofs.Sums.{sum_none}
use Rattle.linear_solve.proofs.Solved.{sum_from_next, sum_from_none}
use Rattle.linear_solve.proofs.solution.row_times.Goals as goal

pub columns-init : goal.columns-init
columns-init g c =
    let R = g.F.Field.ring in
    let none : length c.args.row.now - length c.args.row.now ≡ 0 = omega arith in
    record {
      value = c.zero-sum.ensures ∙ sym (sum_none R (λ i. R.times (coefficients R c.args.row.now (length c.args.row.now + i)) (coefficients R c.args.vector.now (length c.args.row.now + i))))
          ∙ ap (λ t. sum_below R t (λ i. R.times (coefficients R c.args.row.now (length c.args.row.now + i)) (coefficients R c.args.vector.now (length c.args.row.now + i)))) (sym none);
      products = omega arith;
    }

pub columns-preserved : goal.columns-preserved
columns-preserved g c =
    let R = g.F.Field.ring in
    let k : ℕ = c.columns.k - 1 in
    let some : 0 < c.columns.k = omega arith in
    let most : c.columns.k ≤ length c.args.row.now = omega (arith, c.columns.auto.k) in
    let inside : k < length c.args.row.now = omega (arith, some, most) in
    let inside_too : k < length c.args.vector.now = omega (arith, inside, c.requires) in
    record {
      value =
          c.add-sum.ensures
          ∙ ap₂ (λ s t. R.plus s t)
          (c.mul.ensures.value
          ∙ ap₂ (λ s t. R.times s t)
          (c.index-row-k.is ∙ get_or_default c.args.row.now k c.index-row-k.result R.nil inside)
          (c.index-vector-k.is ∙ get_or_default c.args.vector.now k c.index-vector-k.result R.nil inside_too))
          c.columns.invariant.value
          ∙ sum_from_next R (length c.args.row.now) c.columns.k (λ i. R.times (coefficients R c.args.row.now i) (coefficients R c.args.vector.now i)) some most;
      products = omega (arith, c.mul.ensures.ticks, c.columns.invariant.products, some, most);
    }

pub returns-clause-value : goal.returns-clause-value
returns-clause-value g c =
    let R = g.F.Field.ring in
    let none : c.columns.k ≡ 0 = omega arith in
    c.columns.invariant.value
    ∙ sum_from_none R (length c.args.row.now) c.columns.k (λ i. R.times (coefficients R c.args.row.now i) (coefficients R c.args.vector.now i)) none
