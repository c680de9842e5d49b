use Rattle.std.proofs.Common.{◌≡◌, map}
use Rattle.rr_roots.proofs.numbers.roots_of.Given as goal

-- The roots of the entries so far.
abbrev pub invariant-entries : goal.invariant-entries
invariant-entries g l = l.roots.items ≡ map (λ entry. entry.root) l.yielded
