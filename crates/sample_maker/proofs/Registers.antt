-- The register of a sample grows by one licensee.
use Rattle.std.proofs.Common.{◌≡◌, ◌≢◌, ◌∙◌, ℕ, ◌+◌, ◌<◌, ◌≤◌, Bool, true, false, cond, List, [], length, length-append, map, get_or, Option, Some, None, Result, Ok, Err, codes, sym, ap, ap₂, subst, refl, arith, nat_le, nat_lt}
use Rattle.std.specs.Prelude.{◌&&◌}
use Rattle.std.specs.Fmt.{decimal}
use Rattle.std.specs.List.{list_all, range_with_len}
use Rattle.std.proofs.lemmas.Bool.{and_from, le-leb, lt-ltb}
use Rattle.std.proofs.lemmas.Bool.Decides.{nat_tests}
use Rattle.std.proofs.lemmas.Fmt.{decimal_is_IsNumeral_wide, decimal_injective, length-decimal-le}
use Rattle.std.proofs.lemmas.List.{append_cancel_left, get_or-map, length-map}
use Rattle.std.proofs.lemmas.List.Elements.{All-from_get_or}
use Rattle.std.proofs.lemmas.List.Folds.{list_all-append}
use Rattle.std.proofs.lemmas.List.FromFn.{get_or-map-range_with_len, length-map-range_with_len}
use Rattle.std.proofs.lemmas.List.Sums.{list_all-from_AllPass}
use Rattle.std.proofs.lemmas.Str.Parse.{digit_at}
use Rattle.text_terms.specs.Names.{is_plain_character, is_plain}
use Rattle.std.proofs.lemmas.List.FromFn.{map-range_with_len_more}
use Rattle.register_terms.specs.declared.refusal.NameRefusal.{NameRefusal}
use Rattle.register_terms.specs.declared.refusal.NameRefusal.TheVariants.{BadName}
use Rattle.lic_register.specs.declared.errors.EnrolError.{EnrolError}
use Rattle.lic_register.specs.declared.errors.EnrolError.TheVariants as errors
use Rattle.lic_register.specs.Answers.{EnrolsAs}
use Rattle.register_terms.specs.Enrolment.{Licensee, Enrolment, names_of, serial_of}
use Rattle.register_terms.specs.Rules.{with_licensees, with_name, serial_for, enrolment_of}
use Rattle.register_terms.proofs.Serials.{differs_absent}
use Rattle.sample_terms.specs.Inputs.{register_with, licensee, licensee_name}

pub grows : (serial number : ℕ) → with_name (register_with serial number) (licensee_name serial) ≡ register_with (serial + 1) number
unfolding register_with
grows serial number = ap (λ (licensees : List Licensee). with_licensees (register_with serial number) licensees) (sym (map-range_with_len_more licensee 0 serial serial (omega arith)))

pub bits_are : (count number : ℕ) → (register_with count number).bits ≡ 8
unfolding register_with
bits_are count number = refl

pub dimension_is : (count number : ℕ) → (register_with count number).dimension ≡ 3
unfolding register_with
dimension_is count number = refl

-- ---- no name is refused

digit_plain : (b : ℕ) → (48 ≤ b) × (b < 58) → is_plain_character b ≡ true
digit_plain b digit = let low = digit.0 in let high = digit.1 in grind (arith, nat_tests)

decimal_plain : (n : ℕ) → n < 1000 → list_all is_plain_character (decimal n) ≡ true
decimal_plain n small =
    let numeral = decimal_is_IsNumeral_wide n (omega (arith, small)) in
    list_all-from_AllPass is_plain_character (decimal n) (All-from_get_or (λ (b : ℕ). is_plain_character b ≡ true) (decimal n) 0 (λ i lt. let digit = digit_at (decimal n) i numeral.0.1 lt in digit_plain (get_or (decimal n) i 0) (digit.0, omega (arith, digit.1))))

name_plain : (serial : ℕ) → serial < 1000 → is_plain (licensee_name serial) ≡ true
name_plain serial small =
    let short : length (decimal serial) ≤ 3 = length-decimal-le 3 serial (omega arith) (omega (arith, small)) (omega (arith, small)) in
    let long : length (licensee_name serial) ≡ 3 + length (decimal serial) = length-append (codes "lic") (decimal serial) in
    and_from (nat_le 1 (length (licensee_name serial))) (nat_le (length (licensee_name serial)) 64 && list_all is_plain_character (licensee_name serial)) (le-leb 1 (length (licensee_name serial)) (omega (arith, long)))
    (and_from (nat_le (length (licensee_name serial)) 64) (list_all is_plain_character (licensee_name serial)) (le-leb (length (licensee_name serial)) 64 (omega (arith, long, short)))
    (list_all-append is_plain_character (codes "lic") (decimal serial) ∙ decimal_plain serial small))

names_differ : (one other : ℕ) → one < other → other < 1000 → licensee_name one ≢ licensee_name other
names_differ one other lt small same =
    let is = decimal_injective one other (omega (arith, lt, small)) (omega (arith, small)) (append_cancel_left (codes "lic") (decimal one) (decimal other) same) in
    absurd (omega (arith, lt, is))

-- the licensees before a serial
abbrev before : ℕ → List Licensee
before serial = map licensee (range_with_len 0 serial)

before-length : (serial : ℕ) → length (before serial) ≡ serial
before-length serial = length-map-range_with_len licensee 0 serial

name_new : (serial : ℕ) → serial < 1000 → serial_of (names_of (before serial)) (licensee_name serial) ≡ None
name_new serial small = differs_absent (names_of (before serial)) (licensee_name serial) other
  where
    other : (k : ℕ) → k < length (names_of (before serial)) → get_or (names_of (before serial)) k [] ≢ licensee_name serial
    other k within same =
        let earlier : k < serial = omega (arith, within, before-length serial, length-map (before serial) (λ (x : Licensee). x.name)) in
        let inside : k < length (before serial) = omega (arith, earlier, before-length serial) in
        let own : get_or (names_of (before serial)) k [] ≡ licensee_name k =
        get_or-map (λ (x : Licensee). x.name) (before serial) k (licensee 0) [] inside ∙ ap (λ (x : Licensee). x.name) (get_or-map-range_with_len licensee 0 serial k k (licensee 0) earlier (omega arith)) in
        names_differ k serial earlier small (sym own ∙ same)

gets : (plain room : Bool) (n serial : ℕ) (taken : Option ℕ) → plain ≡ true → room ≡ true → taken ≡ None → n ≡ serial → cond plain (serial_for n room taken) (Err BadName) ≡ Ok serial
gets true true n serial None one two three same = ap Ok same
gets true false n serial None one two three same = absurd cc
gets true room n serial (Some other) one two three same = absurd cc
gets false room n serial taken one two three same = absurd cc

-- the next of a sample's licensees gets the next serial
pub welcomed : (serial number : ℕ) → serial < 1000 → enrolment_of (register_with serial number) (licensee_name serial) ≡ Ok serial
unfolding register_with
welcomed serial number small =
    gets (is_plain (licensee_name serial)) (nat_lt (length (before serial)) 200000) (length (before serial)) serial (serial_of (names_of (before serial)) (licensee_name serial)) (name_plain serial small)
    (lt-ltb (length (before serial)) 200000 (omega (arith, small, before-length serial))) (name_new serial small) (before-length serial)

-- so no other refusal than want of memory is an answer
pub memory_alone : (serial number : ℕ) → serial < 1000 → (register : Enrolment) → register ≡ register_with serial number → (name : List ℕ) → name ≡ licensee_name serial → (e : EnrolError) → EnrolsAs (Err e) (enrolment_of register name)
    → e ≡ errors.Memory
memory_alone serial number small register before name is e answer =
    only e (subst (λ (wanted : Result ℕ NameRefusal). EnrolsAs (Err e) wanted) (ap₂ enrolment_of before is ∙ welcomed serial number small) answer)
  where
    only : (e : EnrolError) → EnrolsAs (Err e) (Ok serial) → e ≡ errors.Memory
    only errors.Memory answer = refl
    only errors.BadName answer = cc
    only (errors.NameTaken n) answer = cc
    only (errors.Full n) answer = cc
