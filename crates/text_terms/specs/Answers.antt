-- How a call answers that reads or makes something and may want memory. This project's own.
use Rattle.std.specs.Prelude.{◌≡◌, Option, Some, None, Result, Ok, Err}

-- the fault that is wanted, or want of memory
abbrev pub RefusesAs : {A F : Type 0} → Option F → Result A F → Type 0
RefusesAs (Some fault) wanted = wanted ≡ Err fault
RefusesAs None wanted = Unit {0}

-- The value or the fault that is wanted; want of memory alone may come in place of either. `fault_in` tells the fault that an
-- error has, and none where the error is want of memory.
abbrev pub AnswersAs : {A E F : Type 0} → (E → Option F) → Result A E → Result A F → Type 0
AnswersAs fault_in (Ok x) wanted = wanted ≡ Ok x
AnswersAs fault_in (Err e) wanted = RefusesAs (fault_in e) wanted
