-- A valid register stays one when a licensee whose name is not refused is added last.
use Rattle.std.proofs.Common.{◌≡◌, ◌≢◌, ℕ, ◌<◌, Bool, true, false, cond, ltb, List, [], ◌∷◌, ◌++◌, length, Option, Some, None, Ok, Err, refl, sym, subst, arith, length-append}
use Rattle.std.specs.Option.{option_map}
use Rattle.std.specs.Result.{result_err}
use Rattle.std.specs.List.{All, AllPairs}
use Rattle.std.proofs.lemmas.Bool.{ltb-true, lt-ltb}
use Rattle.std.proofs.lemmas.List.{map_push}
use Rattle.std.proofs.lemmas.List.Elements.{All-push}
use Rattle.std.proofs.lemmas.List.Quantifiers.{all_pairs_push}
use Rattle.text_terms.specs.Names.{is_plain}
use Rattle.register_terms.specs.declared.refusal.NameRefusal.TheVariants.{BadName, NameTaken, Full}
use Rattle.register_terms.specs.Enrolment.{Licensee, Enrolment, IsValid, names_of, capacity, serial_of}
use Rattle.register_terms.specs.Rules.{serial_for, kind_of, refusal_of, with_licensee}
use Rattle.register_terms.proofs.Serials.{absent_differs}

-- why a name may be enrolled
pub record IsWelcome (e : Enrolment) (name : List ℕ) : Type 0 where
  pub plain : is_plain name ≡ true
  pub new : serial_of (names_of e.licensees) name ≡ None
  pub room : length e.licensees < capacity e

welcome_from : (plain : Bool) (taken : Option ℕ) (room : Bool) (n : ℕ)
    → option_map kind_of (result_err (cond plain (serial_for n room taken) (Err BadName))) ≡ None → (plain ≡ true) × (taken ≡ None) × (room ≡ true)
welcome_from true None true n is = (refl, refl, refl)
welcome_from true None false n is = absurd cc
welcome_from true (Some serial) room n is = absurd cc
welcome_from false taken room n is = absurd cc

pub is_welcome : (e : Enrolment) (name : List ℕ) → refusal_of e name ≡ None → IsWelcome e name
is_welcome e name none =
    let parts = welcome_from (is_plain name) (serial_of (names_of e.licensees) name) (ltb (length e.licensees) (capacity e)) (length e.licensees) none in
    record { plain = parts.0; new = parts.1; room = ltb-true (length e.licensees) (capacity e) parts.2 }

pub not_refused : (e : Enrolment) (name : List ℕ) → IsWelcome e name → refusal_of e name ≡ None
not_refused e name welcome = rw (welcome.plain, welcome.new, lt-ltb (length e.licensees) (capacity e) welcome.room) refl

pub names-push : (licensees : List Licensee) (x : Licensee) → names_of (licensees ++ x ∷ []) ≡ names_of licensees ++ x.name ∷ []
names-push licensees x = map_push (λ (y : Licensee). y.name) licensees x

pub with_licensee-valid : (e : Enrolment) (x : Licensee) → IsValid e → IsWelcome e x.name → IsValid (with_licensee e x)
with_licensee-valid e x valid welcome = record {
  bits_low = valid.bits_low;
  bits_high = valid.bits_high;
  dimension_low = valid.dimension_low;
  dimension_high = valid.dimension_high;
  odd = valid.odd;
  multiplier_below = valid.multiplier_below;
  shift_below = valid.shift_below;
  plain = subst (All (λ name. is_plain name ≡ true)) (sym (names-push e.licensees x)) (All-push (λ name. is_plain name ≡ true) (names_of e.licensees) x.name valid.plain welcome.plain);
  distinct = subst (AllPairs (λ a b. a ≢ b)) (sym (names-push e.licensees x)) (all_pairs_push (λ a b. a ≢ b) (names_of e.licensees) x.name valid.distinct (absent_differs (names_of e.licensees) x.name welcome.new));
  room = omega (arith, length-append e.licensees (x ∷ []), welcome.room);
}
