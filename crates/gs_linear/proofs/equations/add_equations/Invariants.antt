use Rattle.std.proofs.Common.{◌+◌, ◌*◌, ◌≤◌, [], length, map}
use Rattle.term_lists.specs.Extended.{IsExtended}
use Rattle.term_lists.specs.Places.{exponents_at}
use Rattle.gs_linear.specs.Equations.{IsEquation}
use Rattle.gs_linear.proofs.equations.add_equations.Given as goal

-- The rows of the first orders.
abbrev pub invariant-orders : goal.invariant-orders
invariant-orders g l = record {
  rows : IsExtended (λ o row. IsEquation g.F.Field.ring l.terms l.fn.point.0 l.fn.point.1 (exponents_at l.orders o) row) [] (map (λ row. row.items) l.fn.rows.items) l._index (map (λ row. row.items) l.rows.items);
  products : l.prods ≤ l.fn.prods + (2 * l.e + l._index * length l.terms);
}
