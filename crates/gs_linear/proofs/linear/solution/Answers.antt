use Rattle.std.proofs.Common.{◌≡◌, ◌+◌, ◌*◌, ◌<◌, ◌≤◌, length, map, sym, ◌∙◌, ap, subst, arith}
use Rattle.std.proofs.lemmas.List.{length-map}
use Rattle.std.specs.Option.{IfSome}
use Rattle.algebra.specs.Lists.{coefficients}
use Rattle.decoding_terms.specs.Parameters.{equation_count}
use Rattle.decoding_terms.proofs.Sizes.{not_many}
use Rattle.linear_solve.specs.Tables.{entries}
use Rattle.system_terms.specs.Systems.{IsZero, Solves}
use Rattle.gs_linear.proofs.Solutions.{before_kernel, both, even, filled_alone, low_y, not_large, row_count, some_equations, some_found}
use Rattle.gs_linear.proofs.linear.solution.Goals as goal

pub equations-requires-clause-y : goal.equations-requires-clause-y
equations-requires-clause-y g c = low_y c.args.params.now.w c.args.params.now.e c.args.terms.now c.args.params.now.some_weight c.requires.terms

pub returns-in_err-rows-clause-products : goal.returns-in_err-rows-clause-products
returns-in_err-rows-clause-products g c =
    let p = c.args.params.now in
    filled_alone p.rows p.cols c.equations.new.prods c.args.prods.now
    (before_kernel p.w p.r p.s p.e p.rows p.cols (length c.args.points.now) (length c.args.orders.now) (length c.args.terms.now) c.equations.new.prods c.args.prods.now p.some_weight p.some_points p.some_times p.equations p.terms c.requires.points c.requires.orders.count c.requires.terms.count c.equations.ensures.products)

pub from_rows-matrix-requires-clause-rows : goal.from_rows-matrix-requires-clause-rows
from_rows-matrix-requires-clause-rows g c =
    let p = c.args.params.now in
    let count = row_count g.F.Field.ring c.args.terms.now c.args.orders.now c.args.points.now (map (λ row. row.items) c.in_ok-rows.rows.items) p.w p.e p.s c.requires.terms c.requires.orders c.in_ok-rows.ensures.rows in
    let same : equation_count (length c.args.points.now) p.s ≡ equation_count p.r p.s = ap (λ n. equation_count n p.s) c.requires.points in
    omega (arith, count, same, some_equations p.r p.s p.some_points p.some_times, p.some_points, length-map c.in_ok-rows.rows.items (λ row. row.items))

pub from_rows-matrix-requires-clause-few : goal.from_rows-matrix-requires-clause-few
from_rows-matrix-requires-clause-few g c =
    let p = c.args.params.now in
    let count = row_count g.F.Field.ring c.args.terms.now c.args.orders.now c.args.points.now (map (λ row. row.items) c.in_ok-rows.rows.items) p.w p.e p.s c.requires.terms c.requires.orders c.in_ok-rows.ensures.rows in
    let same : equation_count (length c.args.points.now) p.s ≡ p.rows = ap (λ n. equation_count n p.s) c.requires.points ∙ sym p.equations in
    let most = not_many p.w p.rows p.e p.some_weight p.weight in
    not_large (length c.in_ok-rows.rows.items) (length c.args.terms.now) (omega (arith, count, same, p.few_equations, length-map c.in_ok-rows.rows.items (λ row. row.items)))
    (omega (arith, most, c.requires.terms.count, p.few_equations))

pub from_rows-matrix-requires-clause-even : goal.from_rows-matrix-requires-clause-even
from_rows-matrix-requires-clause-even g c =
    let p = c.args.params.now in
    even g.F.Field.ring c.args.terms.now c.args.orders.now c.args.points.now (map (λ row. row.items) c.in_ok-rows.rows.items) p.w p.e p.s c.requires.terms c.requires.orders c.in_ok-rows.ensures.rows

pub returns-in_err-kernel-clause-products : goal.returns-in_err-kernel-clause-products
returns-in_err-kernel-clause-products g c =
    let p = c.args.params.now in
    let count = row_count g.F.Field.ring c.args.terms.now c.args.orders.now c.args.points.now (map (λ row. row.items) c.in_ok-rows.rows.items) p.w p.e p.s c.requires.terms c.requires.orders c.in_ok-rows.ensures.rows in
    let after = subst (λ t. c.kernel.new.prods ≤ c.equations.new.prods + 3 * (length t.rows * length t.rows) * t.columns) c.from_rows-matrix.ensures c.kernel.ensures.products in
    both (length (map (λ row. row.items) c.in_ok-rows.rows.items)) (length c.args.terms.now) p.rows p.cols c.equations.new.prods c.kernel.new.prods c.args.prods.now (count ∙ ap (λ n. equation_count n p.s) c.requires.points ∙ sym p.equations) (c.requires.terms.count ∙ sym p.terms)
    (before_kernel p.w p.r p.s p.e p.rows p.cols (length c.args.points.now) (length c.args.orders.now) (length c.args.terms.now) c.equations.new.prods c.args.prods.now p.some_weight p.some_points p.some_times p.equations p.terms c.requires.points c.requires.orders.count c.requires.terms.count c.equations.ensures.products) after

pub unwrap-requires : goal.unwrap-requires
unwrap-requires g c =
    let p = c.args.params.now in
    let count = row_count g.F.Field.ring c.args.terms.now c.args.orders.now c.args.points.now (map (λ row. row.items) c.in_ok-rows.rows.items) p.w p.e p.s c.requires.terms c.requires.orders c.in_ok-rows.ensures.rows in
    let same : equation_count (length c.args.points.now) p.s ≡ p.rows = ap (λ n. equation_count n p.s) c.requires.points ∙ sym p.equations in
    let wide : length c.from_rows-matrix.result.rows < c.from_rows-matrix.result.columns =
    subst (λ t. length t.rows < t.columns) (sym c.from_rows-matrix.ensures) (omega (arith, count, same, p.weight.holds, c.requires.terms.count)) in
    some_found c.in_ok-kernel.field-0 (c.in_ok-kernel.ensures.wide wide)

pub returns-clause-solution : goal.returns-clause-solution
returns-clause-solution g c =
    let R = g.F.Field.ring in
    let matrix = c.from_rows-matrix.ensures in
    let long : length c.unwrap.result ≡ c.from_rows-matrix.result.columns = subst (λ o. IfSome o (λ x. length x ≡ c.from_rows-matrix.result.columns)) c.unwrap.ensures c.in_ok-kernel.ensures.length in
    let solves : Solves R (length c.from_rows-matrix.result.rows) c.from_rows-matrix.result.columns (entries R c.from_rows-matrix.result.rows) (coefficients R c.unwrap.result) =
    subst (λ o. IfSome o (λ x. Solves R (length c.from_rows-matrix.result.rows) c.from_rows-matrix.result.columns (entries R c.from_rows-matrix.result.rows) (coefficients R x))) c.unwrap.ensures c.in_ok-kernel.ensures.solves in
    let nonzero : IsZero R c.from_rows-matrix.result.columns (coefficients R c.unwrap.result) → ⊥ =
    subst (λ o. IfSome o (λ x. IsZero R c.from_rows-matrix.result.columns (coefficients R x) → ⊥)) c.unwrap.ensures c.in_ok-kernel.ensures.nonzero in
    record {
      rows = map (λ row. row.items) c.in_ok-rows.rows.items;
      are = c.in_ok-rows.ensures.rows;
      count = subst (λ t. length c.unwrap.result ≡ t.columns) matrix long;
      solves = subst (λ t. Solves R (length t.rows) t.columns (entries R t.rows) (coefficients R c.unwrap.result)) matrix solves;
      nonzero = subst (λ t. IsZero R t.columns (coefficients R c.unwrap.result) → ⊥) matrix nonzero;
    }

pub returns-clause-products : goal.returns-clause-products
returns-clause-products g c =
    let p = c.args.params.now in
    let count = row_count g.F.Field.ring c.args.terms.now c.args.orders.now c.args.points.now (map (λ row. row.items) c.in_ok-rows.rows.items) p.w p.e p.s c.requires.terms c.requires.orders c.in_ok-rows.ensures.rows in
    let after = subst (λ t. c.kernel.new.prods ≤ c.equations.new.prods + 3 * (length t.rows * length t.rows) * t.columns) c.from_rows-matrix.ensures c.kernel.ensures.products in
    both (length (map (λ row. row.items) c.in_ok-rows.rows.items)) (length c.args.terms.now) p.rows p.cols c.equations.new.prods c.kernel.new.prods c.args.prods.now (count ∙ ap (λ n. equation_count n p.s) c.requires.points ∙ sym p.equations) (c.requires.terms.count ∙ sym p.terms)
    (before_kernel p.w p.r p.s p.e p.rows p.cols (length c.args.points.now) (length c.args.orders.now) (length c.args.terms.now) c.equations.new.prods c.args.prods.now p.some_weight p.some_points p.some_times p.equations p.terms c.requires.points c.requires.orders.count c.requires.terms.count c.equations.ensures.products) after
