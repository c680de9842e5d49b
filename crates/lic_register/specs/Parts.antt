-- What the readers of single lines find.
use Rattle.std.specs.Prelude.{◌≡◌, ℕ, Bool, List, Result, Option, None, Some, Ok, Err}
use Rattle.form_terms.specs.Forms.{Place, found_in}
use Rattle.register_terms.specs.declared.edition.Edition.{Edition}
use Rattle.register_terms.specs.declared.fault.RegisterKind.{RegisterKind}
use Rattle.register_terms.specs.Enrolment.{Licensee, Enrolment}
use Rattle.register_terms.specs.Rules.{broken_rule, empty_register, with_licensee, refusal_of}
use Rattle.register_terms.specs.RegisterText.{RegisterFault, licensees_form}
use Rattle.lic_register.specs.Answers.{IsRefused}
use Rattle.lic_register.specs.declared.rule.Rule.{Rule}
use Rattle.lic_register.specs.declared.errors.RegisterReadError.{RegisterReadError}
use Rattle.lic_register.specs.declared.reading.LicenseeLine.{LicenseeLine}
use Rattle.lic_register.specs.declared.reading.Hindrance.{Hindrance}
use Rattle.lic_register.specs.declared.reading.Hindrance.TheVariants as hindrances

-- the register without licensees that these numbers make
abbrev pub register_by : Rule → Enrolment
register_by rule = empty_register rule.bits rule.dimension rule.multiplier rule.shift

-- no rule is broken by these numbers
abbrev pub IsAllowed : Rule → Type 0
IsAllowed rule = broken_rule rule.bits rule.dimension rule.multiplier rule.shift ≡ None

-- the licensee that a line says
abbrev pub read_licensee : LicenseeLine → Licensee
read_licensee line = record { name = line.name.now; active = line.active }

-- the licensees that are read at a place, behind those of a register
abbrev pub register_at : Edition → Enrolment → Place → Result Enrolment RegisterFault
register_at edition e at = found_in (licensees_form edition e e.licensees at)

-- one line more leads to the same register, or is refused as the whole text is
abbrev pub GoesOn : Result (Unit {0}) RegisterReadError → Edition → Enrolment → Enrolment → Place → Place → Type 0
GoesOn (Ok _) edition old new at after = register_at edition old at ≡ register_at edition new after
GoesOn (Err refusal) edition old new at after = IsRefused refusal (register_at edition old at)

-- the licensee was added last, or this is why not
abbrev pub Admits : Result (Unit {0}) Hindrance → Enrolment → Enrolment → List ℕ → Bool → Type 0
Admits (Ok _) old new name active = (refusal_of old name ≡ None) × (new ≡ with_licensee old (record { name = name; active = active }))
Admits (Err hindrances.Memory) old new name active = Unit {0}
Admits (Err (hindrances.Kind kind)) old new name active = refusal_of old name ≡ Some kind
