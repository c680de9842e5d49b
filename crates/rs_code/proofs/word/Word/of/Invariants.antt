use Rattle.std.proofs.Common.{◌≡◌, take}
use Rattle.code_terms.specs.Words.{HasSymbolsBelow}
use Rattle.rs_code.proofs.word.Word.of.Given as goal

abbrev pub invariant-loop-slot : goal.invariant-loop-slot
invariant-loop-slot l = record {
  so_far : l.copy.items ≡ take l.slot-index l.slots;
  below : HasSymbolsBelow 256 l.copy.items;
}
