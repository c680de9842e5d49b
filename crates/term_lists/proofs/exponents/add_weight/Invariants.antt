use Rattle.std.proofs.Common.{◌≡◌, ◌-◌, ◌*◌}
use Rattle.term_lists.specs.Extended.{IsExtended}
use Rattle.term_lists.proofs.exponents.add_weight.Given as goal

-- The terms with fewer y.
abbrev pub invariant-powers : goal.invariant-powers
invariant-powers l = IsExtended (λ j term. term ≡ record { x = l.weight - l.w * j; y = j }) (record { x = 0; y = 0 }) l.fn.terms.items l.y l.terms.items
