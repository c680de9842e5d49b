-- Least numbers where one more never hurts: the one before does not do.
use Rattle.std.proofs.Common.{◌≡◌, ℕ, suc, ◌+◌, ◌-◌, ◌<◌, ◌≤◌, ap, arith}
use Rattle.decoding_terms.specs.Parameters.{IsWeight, term_count}
use Rattle.decoding_terms.proofs.Terms.{term_count-rises}

pub least_weight : (w equations n : ℕ) → 1 ≤ w → equations < term_count w (suc n) → term_count w n ≤ equations → IsWeight w equations (suc n)
least_weight w equations n some does before = record { holds = does; none_below = none }
  where
    none : (k : ℕ) → k < suc n → ¬ (equations < term_count w k)
    none k less h =
        let whole : k + (n - k) ≡ n = omega (arith, less) in
        let rises = term_count-rises w k some (n - k) in
        let same : term_count w (k + (n - k)) ≡ term_count w n = ap (term_count w) whole in
        omega (arith, h, before, rises, same)
