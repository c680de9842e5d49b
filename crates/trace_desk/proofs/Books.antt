-- A register as a book.
use Rattle.std.proofs.Common.{◌≡◌, ◌≢◌, ℕ, ◌<◌, List, [], length, get_or, All, Option, None, Some, IfSome, sym, ap, ◌∙◌, arith}
use Rattle.std.specs.Prelude.{slice_get}
use Rattle.std.proofs.lemmas.List.{get_or-map}
use Rattle.std.proofs.lemmas.Option.{slice_get_within, get_or_from_slice_get, slice_get-get_or}
use Rattle.register_terms.specs.Enrolment.{Licensee, Enrolment, names_of, message_of}
use Rattle.lic_register.specs.Index.{shown}
use Rattle.lic_register.specs.declared.licensee.Licensee as licensee
use Rattle.desk_terms.specs.Roll.{Entry, no_entry, roll_of}
use Rattle.desk_terms.proofs.Rolls.{roll_of-length, roll_of-entry}

pub register_has : (e : Enrolment) (serial message : ℕ) (x : Licensee) → message_of e serial ≡ message → slice_get e.licensees serial ≡ Some x
    → slice_get (roll_of e).entries serial ≡ Some (record { message = message; name = x.name })
register_has e serial message x has is =
    let enrolled : serial < length e.licensees = slice_get_within e.licensees serial x is in
    let named : get_or (names_of e.licensees) serial [] ≡ x.name =
    get_or-map (λ (y : Licensee). y.name) e.licensees serial x [] enrolled ∙ ap (λ (y : Licensee). y.name) (get_or_from_slice_get e.licensees serial x x is) in
    slice_get-get_or (roll_of e).entries serial no_entry (omega (arith, roll_of-length e))
    ∙ ap Some (roll_of-entry e serial no_entry enrolled ∙ ap (λ (u : ℕ). record { message = u; name = get_or (names_of e.licensees) serial [] }) has ∙ ap (λ (n : List ℕ). record { message = message; name = n }) named)

pub register_lacks : (e : Enrolment) (message : ℕ) → ((serial : ℕ) → serial < length e.licensees → message_of e serial ≢ message) → All (λ (entry : Entry). entry.message ≢ message) (roll_of e).entries
register_lacks e message none k d within =
    let enrolled : k < length e.licensees = omega (arith, roll_of-length e) in
    λ same. none k enrolled (sym (ap (λ (x : Entry). x.message) (roll_of-entry e k d enrolled)) ∙ same)

-- what is found in the register stands on its roll
pub register_found : (e : Enrolment) (message : ℕ) (result : Option (ℕ × licensee.Licensee)) → IfSome result (λ found. (message_of e found.0 ≡ message) × (slice_get e.licensees found.0 ≡ Some (shown found.1)))
    → IfSome result (λ found. slice_get (roll_of e).entries found.0 ≡ Some (record { message = message; name = found.1.name.now }))
register_found e message None found = tt
register_found e message (Some x) found = register_has e x.0 message (shown x.1) found.0 found.1
