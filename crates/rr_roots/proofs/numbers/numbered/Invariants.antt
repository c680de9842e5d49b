use Rattle.std.proofs.Common.{take}
use Rattle.root_terms.specs.Entries.{AreNumbered}
use Rattle.rr_roots.proofs.numbers.numbered.Given as goal

-- The entries of the first i lists.
abbrev pub invariant-lists : goal.invariant-lists
invariant-lists g l = AreNumbered g.F.Field.ring g.F.Field.number g.F.Field.Q (λ entry. entry.number) (λ entry. entry.root) (take l.i l.lists) l.entries.items
