use Rattle.std.proofs.Common.{◌≡◌, [], length, map, ◌∙◌, subst, arith}
use Rattle.std.proofs.lemmas.List.{get_or_default}
use Rattle.term_lists.specs.Extended.{IsExtended}
use Rattle.term_lists.specs.Places.{exponents_at}
use Rattle.gs_linear.specs.Equations.{HaveEquations, IsEquation, point_at}
use Rattle.gs_linear.proofs.Rows.{next_point}
use Rattle.gs_linear.proofs.equations.equations.Goals as goal

pub points-preserved : goal.points-preserved
points-preserved g c =
    let R = g.F.Field.ring in
    let point : c.index-points-index.result ≡ point_at R c.args.points.now c.points._index =
    c.index-points-index.is ∙ get_or_default c.args.points.now c.points._index c.index-points-index.result (R.nil, R.nil) (omega (arith, c.points-test.true, c.points.auto._index-end)) in
    let added =
    subst (λ p. IsExtended (λ o row. IsEquation R c.args.terms.now p.0 p.1 (exponents_at c.args.orders.now o) row) [] (map (λ row. row.items) c.points.rows.items) (length c.args.orders.now) (map (λ row. row.items) c.add_equations.new.rows.items))
    point c.in_ok-add_equations.ensures.added in
    record {
      rows = next_point R c.args.terms.now c.args.orders.now c.args.points.now c.points._index (map (λ row. row.items) c.points.rows.items) (map (λ row. row.items) c.add_equations.new.rows.items) c.points.invariant.rows added;
      products = omega (arith, c.add_equations.ensures.products, c.points.invariant.products);
    }

pub returns-clause-rows : goal.returns-clause-rows
returns-clause-rows g c =
    subst (λ n. HaveEquations g.F.Field.ring c.args.terms.now c.args.orders.now c.args.points.now n (map (λ row. row.items) c.points.rows.items)) (omega (arith, c.points-test.false, c.points.auto._index-end)) c.points.invariant.rows
