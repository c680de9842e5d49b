-- What a register says of a serial, as its roll has it.
use Rattle.std.proofs.Common.{◌≡◌, ℕ, ◌<◌, Bool, true, false, cond, [], length, Some, None, refl, sym, ap, ◌∙◌, arith}
use Rattle.std.specs.Prelude.{◌&&◌, not, nat_lt, slice_get}
use Rattle.std.specs.Str.{bytes_eq}
use Rattle.std.proofs.lemmas.Bool.{ltb-true, lt-ltb}
use Rattle.std.proofs.lemmas.Option.{get_or_from_slice_get, slice_get-get_or, slice_get_within}
use Rattle.std.proofs.lemmas.List.{get_or-map}
use Rattle.register_terms.specs.Enrolment.{Enrolment, message_of}
use Rattle.register_terms.specs.Enrolment.{Licensee}
use Rattle.desk_terms.specs.declared.findings.Accused.{Accused}
use Rattle.desk_terms.specs.Roll.{Entry, entry_at, message_at, no_entry, roll_of}
use Rattle.desk_terms.proofs.Rolls.{roll_of-length, roll_of-entry, roll_of-message}
use Rattle.report_terms.specs.Verdicts.{is_enrolled}

-- nobody
abbrev nobody : Licensee
nobody = record { name = []; active = true }

not_some : {X : Type 0} {x : X} → None ≡ Some x → ⊥
not_some h = cc

message_by : (e : Enrolment) (serial : ℕ) (inside : Bool) → nat_lt serial (length e.licensees) ≡ inside → cond inside (Some (message_of e serial)) None ≡ cond inside (Some (message_at (roll_of e) serial)) None
message_by e serial true is = ap Some (sym (roll_of-message e serial (ltb-true serial (length e.licensees) is)))
message_by e serial false is = refl

pub message_known : (e : Enrolment) (serial : ℕ) → cond (nat_lt serial (length e.licensees)) (Some (message_of e serial)) None ≡ cond (nat_lt serial (length e.licensees)) (Some (message_at (roll_of e) serial)) None
message_known e serial = message_by e serial (nat_lt serial (length e.licensees)) refl

pub nobody_enrolled : (e : Enrolment) (a : Accused) → None ≡ slice_get e.licensees a.serial → is_enrolled (roll_of e) a ≡ false
nobody_enrolled e a none = by (nat_lt a.serial (length (roll_of e).entries)) refl
  where
    by : (inside : Bool) → nat_lt a.serial (length (roll_of e).entries) ≡ inside → is_enrolled (roll_of e) a ≡ false
    by true is =
        let within : a.serial < length e.licensees = omega (arith, ltb-true a.serial (length (roll_of e).entries) is, roll_of-length e) in
        absurd (not_some (none ∙ slice_get-get_or e.licensees a.serial nobody within))
    by false is = rw is refl

-- the licensee of the serial is enrolled under its own name alone
pub enrolled_by_name : (e : Enrolment) (a : Accused) (licensee : Licensee) → Some licensee ≡ slice_get e.licensees a.serial → is_enrolled (roll_of e) a ≡ bytes_eq licensee.name a.name
enrolled_by_name e a licensee is =
    let within : a.serial < length e.licensees = slice_get_within e.licensees a.serial licensee (sym is) in
    let inside : a.serial < length (roll_of e).entries = omega (arith, within, roll_of-length e) in
    let name : (entry_at (roll_of e) a.serial).name ≡ licensee.name =
    ap (λ (x : Entry). x.name) (roll_of-entry e a.serial no_entry within)
    ∙ get_or-map (λ (x : Licensee). x.name) e.licensees a.serial nobody [] within ∙ ap (λ (x : Licensee). x.name) (get_or_from_slice_get e.licensees a.serial licensee nobody (sym is)) in
    rw (lt-ltb a.serial (length (roll_of e).entries) inside, name) refl

pub serial_enrolled : (e : Enrolment) (a : Accused) (licensee : Licensee) → Some licensee ≡ slice_get e.licensees a.serial → nat_lt a.serial (length e.licensees) ≡ true
serial_enrolled e a licensee is = lt-ltb a.serial (length e.licensees) (slice_get_within e.licensees a.serial licensee (sym is))

pub is_false : (b : Bool) → true ≡ not b → b ≡ false
is_false true h = cc
is_false false h = refl

pub is_true : (b : Bool) → false ≡ not b → b ≡ true
is_true true h = refl
is_true false h = cc

found_by : (e : Enrolment) (a : Accused) {X : Type 0} (message known : X) (inside named : Bool) → nat_lt a.serial (length (roll_of e).entries) ≡ inside → Some message ≡ cond (inside && named) (Some known) None → a.serial < length e.licensees
found_by e a message known true named is h = omega (arith, ltb-true a.serial (length (roll_of e).entries) is, roll_of-length e)
found_by e a message known false named is h = absurd cc

-- who has a message is enrolled
pub enrolled_where_found : (e : Enrolment) (a : Accused) {X : Type 0} (message known : X) → Some message ≡ cond (is_enrolled (roll_of e) a) (Some known) None → a.serial < length e.licensees
enrolled_where_found e a message known h = found_by e a message known (nat_lt a.serial (length (roll_of e).entries)) (bytes_eq (entry_at (roll_of e) a.serial).name a.name) refl h
