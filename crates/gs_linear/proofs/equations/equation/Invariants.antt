use Rattle.std.proofs.Common.{◌≡◌, ◌+◌, ◌≤◌, []}
use Rattle.bi_poly.specs.Rows.{ArePowers}
use Rattle.term_lists.specs.Extended.{IsExtended}
use Rattle.term_lists.specs.Places.{exponents_at}
use Rattle.term_lists.specs.Polynomials.{term_derivative}
use Rattle.gs_linear.proofs.equations.equation.Given as goal

-- The first entries.
abbrev pub invariant-terms : goal.invariant-terms
invariant-terms g l = record {
  entries : (a b : _) → ArePowers g.F.Field.ring a l.xs → ArePowers g.F.Field.ring b l.ys
      → IsExtended (λ k entry. entry ≡ term_derivative g.F.Field.ring a b l.order.x l.order.y (exponents_at l.terms k)) g.F.Field.ring.nil [] l._index l.row.items;
  products : l.prods ≤ l.fn.prods + l._index;
}
