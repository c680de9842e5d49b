use Rattle.std.proofs.Common.{◌+◌, ◌*◌, ◌≤◌, length}
use Rattle.uni_poly.proofs.RootsBelow.{IsRootsBelow}
use Rattle.uni_poly.proofs.poly.Poly.roots.Given as goal

-- The roots with smaller numbers.
abbrev pub invariant-elements : goal.invariant-elements
invariant-elements g l = record {
  roots : IsRootsBelow g.F.Field.ring g.F.Field.number l.self l.number l.roots.items;
  products : l.prods ≤ l.fn.prods + l.number * length l.self;
}
