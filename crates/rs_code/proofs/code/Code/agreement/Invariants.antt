use Rattle.std.proofs.Common.{◌≡◌, ◌+◌, ◌*◌, ◌≤◌, length}
use Rattle.code_terms.proofs.PlaceLaws.{places_below}
use Rattle.rs_code.proofs.code.Code.agreement.Given as goal

-- The number of the agreeing places so far.
abbrev pub invariant-loop-place : goal.invariant-loop-place
invariant-loop-place g l = record {
  count : l.count ≡ length (places_below g.F.Field.BITS l.self.dimension l.message l.word l.place);
  products : l.prods ≤ l.fn.prods + l.place * l.self.dimension;
  few : l.count ≤ l.place;
}
