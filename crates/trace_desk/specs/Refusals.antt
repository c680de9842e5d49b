-- Refusals of the decoder, as the desk has them. This project's own.
use Rattle.list_decode.specs.declared.decode_error.DecodeError.{DecodeError}
use Rattle.list_decode.specs.declared.decode_error.DecodeError.TheVariants as decoder
use Rattle.trace_desk.specs.declared.desk_error.DeskError.{DeskError}
use Rattle.trace_desk.specs.declared.desk_error.DeskError.TheVariants.{BadBound, TooFew, Memory}

abbrev pub refused_as : DecodeError → DeskError
refused_as decoder.BadBound = BadBound
refused_as (decoder.TooFew readable) = TooFew readable
refused_as decoder.Memory = Memory
