-- The rules of registers, each as one test: of the numbers, of a name that is to be enrolled, and of one that is to be
-- withdrawn. This project's own.
use Rattle.std.specs.Prelude.{ℕ, zero, suc, ◌*◌, ◌%◌, ◌^◌, Bool, true, false, ◌&&◌, ◌==◌, nat_le, nat_lt, if◌then◌else◌, List, [], ◌∷◌, ◌++◌, length, slice_get, Option, Some, None, Result, Ok, Err, not}
use Rattle.std.specs.Option.{option_map, option_map_or}
use Rattle.std.specs.Result.{result_err}
use Rattle.text_terms.specs.Names.{is_plain}
use Rattle.register_terms.specs.declared.fault.RegisterKind.{RegisterKind}
use Rattle.register_terms.specs.declared.fault.RegisterKind.TheVariants as kind
use Rattle.register_terms.specs.declared.refusal.RegisterError.{RegisterError}
use Rattle.register_terms.specs.declared.refusal.RegisterError.TheVariants.{BadM, BadK, BadMultiplier, BadShift}
use Rattle.register_terms.specs.declared.refusal.NameRefusal.{NameRefusal}
use Rattle.register_terms.specs.declared.refusal.NameRefusal.TheVariants.{BadName, NameTaken, Full}
use Rattle.register_terms.specs.Enrolment.{Licensee, Enrolment, names_of, capacity, serial_of}

-- ---- the numbers

abbrev pub are_bits : ℕ → Bool
are_bits m = nat_le 4 m && nat_le m 8

abbrev pub is_dimension : ℕ → Bool
is_dimension k = nat_le 2 k && nat_le k 13

abbrev pub is_multiplier : ℕ → ℕ → ℕ → Bool
is_multiplier m k a = (a % 2 == 1) && nat_lt a (2 ^ (m * k))

abbrev pub is_shift : ℕ → ℕ → ℕ → Bool
is_shift m k b = nat_lt b (2 ^ (m * k))

-- a register without licensees
abbrev pub empty_register : ℕ → ℕ → ℕ → ℕ → Enrolment
empty_register m k a b = record { bits = m; dimension = k; multiplier = a; shift = b; licensees = [] }

-- the first rule that four numbers break
abbrev pub broken_rule : ℕ → ℕ → ℕ → ℕ → Option RegisterError
broken_rule m k a b =
    if not (are_bits m) then Some BadM
    else (if not (is_dimension k) then Some BadK
    else (if not (is_multiplier m k a) then Some BadMultiplier
    else (if not (is_shift m k b) then Some BadShift
    else None)))

-- ---- enrolling

-- the register with these licensees
abbrev pub with_licensees : Enrolment → List Licensee → Enrolment
with_licensees e licensees = record e { licensees = licensees }

-- the register with one more licensee, added last
abbrev pub with_licensee : Enrolment → Licensee → Enrolment
with_licensee e x = with_licensees e (e.licensees ++ x ∷ [])

-- the register with one more licensee of this name, added last as active
abbrev pub with_name : Enrolment → List ℕ → Enrolment
with_name e name = with_licensee e (record { name = name; active = true })

-- the serial that a plain name gets behind so many licensees, or why it gets none
abbrev pub serial_for : ℕ → Bool → Option ℕ → Result ℕ NameRefusal
serial_for licensees has_room (Some serial) = Err (NameTaken serial)
serial_for licensees has_room None = if has_room then Ok licensees else Err (Full licensees)

-- the serial that a name gets, or why it gets none
abbrev pub enrolment_of : Enrolment → List ℕ → Result ℕ NameRefusal
enrolment_of e name =
    if is_plain name then serial_for (length e.licensees) (nat_lt (length e.licensees) (capacity e)) (serial_of (names_of e.licensees) name) else Err BadName

-- the refusal as what is wrong with a line
abbrev pub kind_of : NameRefusal → RegisterKind
kind_of BadName = kind.BadName
kind_of (NameTaken serial) = kind.NameTaken
kind_of (Full licensees) = kind.Full

-- what is wrong with the line of a name that is not enrolled
abbrev pub refusal_of : Enrolment → List ℕ → Option RegisterKind
refusal_of e name = option_map kind_of (result_err (enrolment_of e name))

-- ---- withdrawing

-- the licensees, of whom the one with this serial is withdrawn, and all else as it was
abbrev pub withdrawn_at : List Licensee → ℕ → List Licensee
withdrawn_at [] serial = []
withdrawn_at (x ∷ licensees) zero = record x { active = false } ∷ licensees
withdrawn_at (x ∷ licensees) (suc serial) = x ∷ withdrawn_at licensees serial

abbrev pub with_withdrawn : Enrolment → ℕ → Enrolment
with_withdrawn e serial = with_licensees e (withdrawn_at e.licensees serial)

-- whether the licensee with this serial holds the licence still
abbrev pub is_active : Enrolment → ℕ → Bool
is_active e serial = option_map_or (λ x. x.active) (slice_get e.licensees serial) false
