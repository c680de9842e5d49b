use Rattle.std.proofs.Common.{◌≡◌, ◌+◌, ◌*◌, ◌≤◌}
use Rattle.code_terms.specs.Words.{codeword_of, HasSymbolsBelow}
use Rattle.rs_code.proofs.code.Code.codeword.Given as goal

-- The symbols so far.
abbrev pub invariant-loop-place : goal.invariant-loop-place
invariant-loop-place g l = record {
  so_far : l.slots.items ≡ codeword_of g.F.Field.BITS l.self.dimension l.message l.place;
  below : HasSymbolsBelow 256 l.slots.items;
  products : l.prods ≤ l.fn.prods + l.place * l.self.dimension;
}
