use Rattle.std.proofs.Common.{◌+◌, ◌*◌, ◌≤◌, length, map}
use Rattle.gs_linear.specs.Equations.{HaveEquations}
use Rattle.gs_linear.proofs.equations.equations.Given as goal

-- The rows of the first points.
abbrev pub invariant-points : goal.invariant-points
invariant-points g l = record {
  rows : HaveEquations g.F.Field.ring l.terms l.orders l.points l._index (map (λ row. row.items) l.rows.items);
  products : l.prods ≤ l.fn.prods + l._index * (2 * l.e + length l.orders * length l.terms);
}
