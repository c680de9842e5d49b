-- Refusals by the choice of parameters, as the decoder answers them.
-- Source: this project's own.
use Rattle.gs_params.specs.declared.parameters.ParamError.{ParamError}
use Rattle.gs_params.specs.declared.parameters.ParamError.TheVariants as chosen
use Rattle.list_decode.specs.declared.decode_error.DecodeError.{DecodeError}
use Rattle.list_decode.specs.declared.decode_error.DecodeError.TheVariants.{BadBound, TooFew}

abbrev pub refused_as : ParamError → DecodeError
refused_as chosen.BadBound = BadBound
refused_as (chosen.TooFew r) = TooFew r
