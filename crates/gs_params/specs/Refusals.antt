-- When there are no parameters, and why.
-- Source: this project's own.
use Rattle.std.specs.Prelude.{ℕ, ◌-◌, ◌*◌, nat_lt, if◌then◌else◌, Option, None, Some}
use Rattle.decoding_terms.specs.Parameters.{is_allowed_bound}
use Rattle.gs_params.specs.declared.parameters.ParamError.{ParamError}
use Rattle.gs_params.specs.declared.parameters.ParamError.TheVariants.{BadBound, TooFew}

-- why there are no parameters for r points, and none where there are
abbrev pub refusal_of : (k c r : ℕ) → Option ParamError
refusal_of k c r =
    if is_allowed_bound k c then (if nat_lt (c * c * (k - 1)) r then None else Some (TooFew r)) else Some BadBound
