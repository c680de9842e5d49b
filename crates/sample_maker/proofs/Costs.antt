-- The products of the desk's call, for a code of 64 places whose messages have three symbols, and 30 readable places.
use Rattle.std.proofs.Common.{◌≡◌, ℕ, ◌+◌, ◌≤◌, subst, sym}
use Rattle.desk_terms.specs.Bounds.{tracing_bound}
use Rattle.gs_params.specs.declared.parameters.Params.{Params}
use Rattle.list_decode.specs.Answers.{CostsAtMost}

pub within : (cost : Params → ℕ) (places dimension r curve old new : ℕ) → places ≡ 64 → dimension ≡ 3 → r ≡ 30
    → (CostsAtMost cost dimension 3 r curve → new ≤ old + tracing_bound curve places dimension 3) → CostsAtMost cost 3 3 30 curve → new ≤ old + tracing_bound curve 64 3 3
within cost places dimension r curve old new places_is dimension_is r_is bound costs =
    subst (λ (n : ℕ). new ≤ old + tracing_bound curve n 3 3) places_is
    (subst (λ (k : ℕ). new ≤ old + tracing_bound curve places k 3) dimension_is
    (bound (subst (λ (k : ℕ). CostsAtMost cost k 3 r curve) (sym dimension_is) (subst (λ (n : ℕ). CostsAtMost cost 3 3 n curve) (sym r_is) costs))))
