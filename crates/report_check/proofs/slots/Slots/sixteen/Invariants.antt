use Rattle.std.proofs.Common.{◌≡◌, ℕ, ◌+◌, ◌≤◌, List, Option, length}
use Rattle.report_check.specs.Shown.{HasSymbols, HasSlots, agreement_below}
use Rattle.report_check.proofs.slots.Slots.sixteen.Given as goal

abbrev pub invariant-loop-offset : goal.invariant-loop-offset
invariant-loop-offset l = record {
  few : l.count ≤ l.offset;
  so_far : (m k u : ℕ) (word : List (Option ℕ)) → length word ≡ l.self.places → HasSlots word l.self.symbols l.self.known → HasSymbols m k u (length word) l.symbols
      → agreement_below m k u word l.start + l.count ≡ agreement_below m k u word (l.start + l.offset);
}
