use Rattle.std.proofs.Common.{◌≡◌, ◌+◌, ◌*◌, ◌≤◌}
use Rattle.code_terms.proofs.PlaceLaws.{places_below}
use Rattle.rs_code.proofs.code.Code.places.Given as goal

-- The agreeing places so far.
abbrev pub invariant-loop-place : goal.invariant-loop-place
invariant-loop-place g l = record {
  so_far : l.places.items ≡ places_below g.F.Field.BITS l.self.dimension l.message l.word l.place;
  products : l.prods ≤ l.fn.prods + l.place * l.self.dimension;
}
