use Rattle.std.proofs.Common.{◌≡◌, ℕ, ◌*◌, ◌≤◌, List, Option, length}
use Rattle.report_check.specs.Shown.{HasSymbols, HasSlots, agreement_below}
use Rattle.report_check.proofs.slots.Slots.agreement.Given as goal

abbrev pub invariant-loop-group : goal.invariant-loop-group
invariant-loop-group l = record {
  few : l.count ≤ 16 * l.group;
  so_far : (m k u : ℕ) (word : List (Option ℕ)) → length word ≡ l.self.places → HasSlots word l.self.symbols l.self.known → HasSymbols m k u (length word) l.symbols
      → l.count ≡ agreement_below m k u word (16 * l.group);
}
