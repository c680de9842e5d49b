-- Why no title is made, as a command is refused.
use Rattle.std.specs.Prelude.{Result, Ok, Err}
use Rattle.outcome_terms.specs.declared.fault.Fault.TheVariants as fault
use Rattle.outcome_terms.specs.declared.refusal.Refusal.{Refusal}
use Rattle.outcome_terms.specs.declared.refusal.Refusal.TheVariants as refusal
use Rattle.packager.specs.declared.errors.PackError.{PackError}
use Rattle.packager.specs.declared.errors.PackError.TheVariants as error

abbrev pub refusal_of : PackError → Refusal
refusal_of (error.NoSegment segment) = refusal.Content (fault.NoSegment segment)
refusal_of (error.Missing name) = refusal.Missing name
refusal_of (error.Fault name) = refusal.ReadFault name
refusal_of (error.TooLong name) = refusal.TooLong name
refusal_of (error.Duplicate place symbol again_place again_symbol) = refusal.Content (fault.Duplicate place symbol again_place again_symbol)
refusal_of error.Memory = refusal.Memory

-- an answer with the value seen by `view`, and the refusal of a command
abbrev pub told_by : {A B : Type 0} → (A → B) → Result A PackError → Result B Refusal
told_by view (Ok x) = Ok (view x)
told_by view (Err e) = Err (refusal_of e)
