use Rattle.std.proofs.Common.{ℕ, ◌-◌, ◌*◌, ◌<◌, length}
use Rattle.algebra.specs.Bivariate.{greatest, weight_by, y_power}
use Rattle.root_terms.proofs.Searches.{AreFound}
use Rattle.root_terms.proofs.Costs.{IsSpent}
use Rattle.rr_roots.proofs.search.+root_lists.Given as goal

-- How many coefficients are left to find.
abbrev pub decreases-root_lists : goal.decreases-root_lists
decreases-root_lists g l = l.count

-- The branches of the first n constants are searched.
abbrev pub invariant-constants : goal.invariant-constants
invariant-constants g l = record {
  found : AreFound g.F.Field.ring l.q (l.fn.count - 1) l.constants-inside.items.items l.n l.found.items;
  spent : (y e : ℕ) → greatest y_power l.q < y → greatest (weight_by (l.fn.count - 1)) l.q < e
      → IsSpent g.F.Field.ring l.q l.constants-inside.items.items l.n (l.fn.count - 1) (length l.found.items) (e * (y * y)) l.initial.prods l.prods;
}
