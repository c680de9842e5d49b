-- What a form finds, as a call tells it.
use Rattle.std.specs.Prelude.{◌≡◌, Result, Ok, Err}
use Rattle.form_terms.specs.declared.fault.LineFault.{LineFault}
use Rattle.form_terms.specs.Forms.{Place, Form}

-- The form finds what was answered, seen so, and leaves off at the new place; or it has the fault that was answered. Where
-- the place is after a fault nothing says.
abbrev pub Finds : {K X A : Type 0} → (X → A) → Result X (LineFault K) → Place → Place → Form K A → Type 0
Finds view (Ok x) old new form = form old ≡ Ok (view x, new)
Finds view (Err fault) old new form = form old ≡ Err fault
