-- What the curve of a trace costs. This project's own.
use Rattle.std.specs.Prelude.{◌≡◌, ℕ, ◌+◌, ◌-◌, ◌*◌, ◌/◌, ◌≤◌}
use Rattle.gs_params.specs.declared.parameters.Params.{Params}
use Rattle.desk_terms.specs.Bounds.{iterative_curve_bound}
use Rattle.list_decode.specs.Answers.{CostsAtMost}
use Rattle.outcome_terms.specs.Traces.{Trace}

-- with an interpolator of this cost, at most so many products for the curve
abbrev pub curve_costs : (Params → ℕ) → Trace → ℕ → Type 0
curve_costs cost trace most = CostsAtMost cost trace.dimension trace.bound trace.readable most

-- no more than what building a curve point by point takes
abbrev pub IsBuilt : (Params → ℕ) → Type 0
IsBuilt cost = (p : Params) → cost p ≤ 8 * p.rows * ((p.e - 1) / p.w + 1) * p.cols

-- the products of the curve of such a trace
abbrev pub built_costs : Trace → ℕ → Type 0
built_costs trace most = most ≡ iterative_curve_bound trace.places trace.dimension trace.bound
