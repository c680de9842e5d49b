use Rattle.std.proofs.Common.{◌+◌, [], ◌∷◌, map, sym, ◌∙◌, ap, subst, arith}
use Rattle.std.proofs.lemmas.List.{map-append}
use Rattle.bi_poly.specs.Rows.{ArePowers}
use Rattle.term_lists.specs.Extended.{IsExtended}
use Rattle.term_lists.specs.Places.{exponents_at}
use Rattle.term_lists.proofs.Pushed.{extended_push}
use Rattle.gs_linear.specs.Equations.{IsEquation}
use Rattle.gs_linear.proofs.equations.add_equations.Goals as goal

pub orders-preserved : goal.orders-preserved
orders-preserved g c =
    let R = g.F.Field.ring in
    let xs = subst (ArePowers R c.args.point.0) (sym c.deref.ensures.value) c.in_ok-xs.ensures.powers in
    let ys = subst (ArePowers R c.args.point.1) (sym c.deref-in-orders.ensures.value) c.in_ok-ys.ensures.powers in
    record {
      rows =
          subst (IsExtended (λ o row. IsEquation R c.args.terms.now c.args.point.0 c.args.point.1 (exponents_at c.args.orders.now o) row) [] (map (λ row. row.items) c.args.rows.now.items) (c.orders._index + 1))
          (sym (ap (map (λ row. row.items)) c.in_ok-push.ensures.items ∙ map-append (λ row. row.items) c.orders.rows.items (c.in_ok-equation.field-0 ∷ [])))
          (extended_push (λ o row. IsEquation R c.args.terms.now c.args.point.0 c.args.point.1 (exponents_at c.args.orders.now o) row) [] (map (λ row. row.items) c.args.rows.now.items) c.orders._index (map (λ row. row.items) c.orders.rows.items) c.in_ok-equation.field-0.items c.orders.invariant.rows
          (c.in_ok-equation.ensures.row c.args.point.0 c.args.point.1 xs ys));
      products = omega (arith, c.equation.ensures.products, c.orders.invariant.products);
    }
