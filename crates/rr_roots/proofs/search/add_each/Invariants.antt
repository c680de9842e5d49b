use Rattle.std.proofs.Common.{◌≡◌, ◌∷◌, ◌++◌, map, take}
use Rattle.rr_roots.proofs.search.add_each.Given as goal

-- The first i lists are added.
abbrev pub invariant-tails : goal.invariant-tails
invariant-tails g l = l.found.items ≡ l.fn.found.items ++ map (λ tail. l.constant ∷ tail) (take l.i l.tails)
