-- What a command is refused with, where a sample has no summary. This project's own.
use Rattle.std.specs.Prelude.{◌<◌, ⊤}
use Rattle.outcome_terms.specs.declared.fault.Fault.TheVariants as fault
use Rattle.outcome_terms.specs.declared.refusal.Refusal.{Refusal}
use Rattle.outcome_terms.specs.declared.refusal.Refusal.TheVariants as refusals
use Rattle.sample_maker.specs.declared.error.SampleError.{SampleError}
use Rattle.sample_maker.specs.declared.error.SampleError.TheVariants.{Duplicate, Memory}

abbrev pub refused_as : SampleError → Refusal
refused_as (Duplicate place symbol again_place again_symbol) = refusals.Content (fault.Duplicate place symbol again_place again_symbol)
refused_as Memory = refusals.Memory

-- the symbols of the variants that are told are of eight bits
abbrev pub HasSymbols : SampleError → Type 0
HasSymbols (Duplicate place symbol again_place again_symbol) = (symbol < 256) × (again_symbol < 256)
HasSymbols Memory = ⊤
