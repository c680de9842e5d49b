-- Findings are right exactly where they are those of the desk.
use Rattle.std.proofs.Common.{◌≡◌, ℕ, ◌+◌, ◌<◌, ◌≤◌, Bool, true, false, cond, List, [], ◌∷◌, length, Option, Some, None, refl, ap, ap₂, ◌∙◌, arith, eq-eqb}
use Rattle.std.specs.Prelude.{◌==◌, ◌&&◌, not, nat_lt, nat_le, unwrap_or, option_map}
use Rattle.std.specs.Option.{option_or}
use Rattle.std.proofs.lemmas.Bool.{eqb-true}
use Rattle.std.proofs.lemmas.Bool.Decides.{nat_tests}
use Rattle.code_terms.specs.Words.{readable}
use Rattle.decoder_terms.specs.Decoding.{not_enough}
use Rattle.desk_terms.specs.declared.findings.Accused.{Accused}
use Rattle.desk_terms.specs.declared.findings.Findings.{Findings}
use Rattle.desk_terms.specs.Findings.{is_accused, findings}
use Rattle.desk_terms.specs.Roll.{Roll}
use Rattle.report_terms.specs.declared.verdict.Verdict.{Verdict}
use Rattle.report_terms.specs.declared.verdict.Verdict.TheVariants.{Right, TooFew, WrongReadable, NotEnrolled, Order, WrongPlaces, Below, Absent}
use Rattle.report_terms.specs.Verdicts.{is_enrolled, has_its_places, fault_of, first_fault, is_listed, is_missed, first_missed, list_verdict, verdict}
use Rattle.checked_reports.proofs.Lists.{none_passes, none_found, found_among, found_sound, found_listed, no_fault, sound_where_free, all_found}

-- ---- no fault is the verdict that all is right

abbrev IsNotRight : Option Verdict → Type 0
IsNotRight None = Unit {0}
IsNotRight (Some v) = v ≡ Right → ⊥

either_not_right : (o p : Option Verdict) → IsNotRight o → IsNotRight p → IsNotRight (option_or o p)
either_not_right None p first second = second
either_not_right (Some v) p first second = first

four_not_right : (enrolled order places meets : Bool) (i : ℕ)
    → IsNotRight (cond (not enrolled) (Some (NotEnrolled i)) (cond order (Some (Order i)) (cond (not places) (Some (WrongPlaces i)) (cond (not meets) (Some (Below i)) None))))
four_not_right false order places meets i = λ h. cc
four_not_right true true places meets i = λ h. cc
four_not_right true false false meets i = λ h. cc
four_not_right true false true false i = λ h. cc
four_not_right true false true true i = tt

fault_not_right : (roll : Roll) (word : List (Option ℕ)) (c position least : ℕ) (a : Accused) → IsNotRight (fault_of roll word c position least a)
unfolding fault_of
fault_not_right roll word c position least a = four_not_right (is_enrolled roll a) (nat_lt a.serial least) (has_its_places roll word a) (is_accused roll word c a.serial) position

first_not_right : (roll : Roll) (word : List (Option ℕ)) (c position least : ℕ) (xs : List Accused) → IsNotRight (first_fault roll word c position least xs)
unfolding first_fault
first_not_right roll word c position least [] = tt
first_not_right roll word c position least (a ∷ xs) =
    either_not_right (fault_of roll word c position least a) (first_fault roll word c (position + 1) (a.serial + 1) xs) (fault_not_right roll word c position least a) (first_not_right roll word c (position + 1) (a.serial + 1) xs)

nothing_wrong : (fault : Option Verdict) (missed : Option ℕ) → IsNotRight fault → unwrap_or (option_or fault (option_map Absent missed)) Right ≡ Right → (fault ≡ None) × (missed ≡ None)
nothing_wrong None None other h = (refl, refl)
nothing_wrong None (Some serial) other h = absurd cc
nothing_wrong (Some v) missed other h = absurd (other h)

-- ---- who is missed

is_there : (listed meets : Bool) → (not listed && meets) ≡ false → meets ≡ true → listed ≡ true
is_there true meets h is = refl
is_there false meets h is = absurd cc

not_missed : (listed meets : Bool) → (meets ≡ true → listed ≡ true) → (not listed && meets) ≡ false
not_missed true meets there = refl
not_missed false true there = absurd (let no : false ≡ true = there refl in cc)
not_missed false false there = refl

few_not : (a b : ℕ) → b < a → nat_le a b ≡ false
few_not a b lt = grind (arith, nat_tests)

many : (a b : ℕ) → nat_le a b ≡ false → b < a
many a b not_few = grind (arith, nat_tests)

module _ (roll : Roll) (word : List (Option ℕ)) (c : ℕ) where
  nobody_missed : (accused : List Accused) → accused ≡ found_among roll word c 0 (length roll.entries) → first_missed roll word c accused ≡ None
  unfolding first_missed
  nobody_missed accused are =
      none_found (is_missed roll word c accused) 0 (length roll.entries) (λ s low high.
      not_missed (is_listed accused s) (is_accused roll word c s) (λ meets. ap (λ xs. is_listed xs s) are ∙ found_listed roll word c 0 (length roll.entries) s low high meets))

  list_right : (accused : List Accused) → accused ≡ found_among roll word c 0 (length roll.entries) → list_verdict roll word c accused ≡ Right
  list_right accused are =
      let whole : 0 + length roll.entries ≤ length roll.entries = omega arith in
      let no : first_fault roll word c 0 0 accused ≡ None = ap (first_fault roll word c 0 0) are ∙ no_fault roll word c (found_among roll word c 0 (length roll.entries)) 0 0 (found_sound roll word c 0 (length roll.entries) whole) in
      rw (no, nobody_missed accused are) refl

  all_listed : (accused : List Accused) → first_missed roll word c accused ≡ None → (s : ℕ) → 0 ≤ s → s < length roll.entries → is_accused roll word c s ≡ true → is_listed accused s ≡ true
  unfolding first_missed
  all_listed accused none s low high meets =
      is_there (is_listed accused s) (is_accused roll word c s) (none_passes (is_missed roll word c accused) 0 (length roll.entries) none s low (omega (arith, high))) meets

  list_found : (accused : List Accused) → list_verdict roll word c accused ≡ Right → accused ≡ found_among roll word c 0 (length roll.entries)
  list_found accused right =
      let both = nothing_wrong (first_fault roll word c 0 0 accused) (first_missed roll word c accused) (first_not_right roll word c 0 0 accused) right in
      all_found roll word c (length roll.entries) 0 accused (omega arith) (sound_where_free roll word c accused 0 0 both.0) (all_listed accused both.1)

-- ---- the whole

pub right_there : (roll : Roll) (word : List (Option ℕ)) (f : Findings) → not_enough roll.dimension f.bound < readable word → f ≡ findings roll word f.bound → verdict roll word f ≡ Right
unfolding verdict findings
right_there roll word f enough are =
    let number : (f.readable == readable word) ≡ true = eq-eqb f.readable (readable word) (ap (λ (x : Findings). x.readable) are) in
    let accused : f.accused ≡ found_among roll word f.bound 0 (length roll.entries) = ap (λ (x : Findings). x.accused) are in
    rw (few_not (readable word) (not_enough roll.dimension f.bound) enough, number) (list_right roll word f.bound f.accused accused)

told_right : (roll : Roll) (word : List (Option ℕ)) (f : Findings) (few number : Bool) → nat_le (readable word) (not_enough roll.dimension f.bound) ≡ few → (f.readable == readable word) ≡ number
    → cond few (TooFew (readable word)) (cond number (list_verdict roll word f.bound f.accused) WrongReadable) ≡ Right → (not_enough roll.dimension f.bound < readable word) × (f ≡ findings roll word f.bound)
unfolding findings
told_right roll word f true number is same h = absurd cc
told_right roll word f false false is same h = absurd cc
told_right roll word f false true is same h = (
  many (readable word) (not_enough roll.dimension f.bound) is,
  ap₂ (λ (r : ℕ) (xs : List Accused). let x : Findings = record { readable = r; bound = f.bound; accused = xs } in x) (eqb-true f.readable (readable word) same) (list_found roll word f.bound f.accused h),
)

pub right_only : (roll : Roll) (word : List (Option ℕ)) (f : Findings) → verdict roll word f ≡ Right → (not_enough roll.dimension f.bound < readable word) × (f ≡ findings roll word f.bound)
unfolding verdict
right_only roll word f h = told_right roll word f (nat_le (readable word) (not_enough roll.dimension f.bound)) (f.readable == readable word) refl refl h
