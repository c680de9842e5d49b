-- The verdict on findings, by a plain count over a roll and a word. This project's own.
use Rattle.std.specs.Prelude.{ℕ, ◌+◌, Bool, not, ◌&&◌, ◌==◌, nat_lt, nat_le, if◌then◌else◌, List, [], ◌∷◌, length, find, Option, Some, None, option_map, unwrap_or}
use Rattle.std.specs.List.{list_any}
use Rattle.std.specs.Option.{option_or}
use Rattle.std.specs.Str.{bytes_eq}
use Rattle.code_terms.specs.Words.{readable, places_of}
use Rattle.decoder_terms.specs.Decoding.{not_enough}
use Rattle.desk_terms.specs.declared.findings.Accused.{Accused}
use Rattle.desk_terms.specs.declared.findings.Findings.{Findings}
use Rattle.desk_terms.specs.Findings.{is_accused, serials}
use Rattle.desk_terms.specs.Roll.{Roll, entry_at, message_at}
use Rattle.report_terms.specs.declared.verdict.Verdict.{Verdict}
use Rattle.report_terms.specs.declared.verdict.Verdict.TheVariants.{Right, TooFew, WrongReadable, NotEnrolled, Order, WrongPlaces, Below, Absent}

-- ---- one of the accused

-- the serial is that of a licensee, who has this name
abbrev pub is_enrolled : Roll → Accused → Bool
is_enrolled roll a = nat_lt a.serial (length roll.entries) && bytes_eq (entry_at roll a.serial).name a.name

-- the places are those where the licensee of this serial agrees with the word, in ascending order
abbrev pub has_its_places : Roll → List (Option ℕ) → Accused → Bool
has_its_places roll word a = bytes_eq a.places (places_of roll.bits roll.dimension (message_at roll a.serial) word)

-- the first thing that is wrong with the accused at a position, behind others whose serials are all below `least`
unfoldable pub fault_of : Roll → List (Option ℕ) → (c position least : ℕ) → Accused → Option Verdict
fault_of roll word c position least a =
    if not (is_enrolled roll a) then Some (NotEnrolled position) else
    (if nat_lt a.serial least then Some (Order position) else
    (if not (has_its_places roll word a) then Some (WrongPlaces position) else
    (if not (is_accused roll word c a.serial) then Some (Below position) else None)))

-- the first thing that is wrong with the accused from a position on
unfoldable pub first_fault : Roll → List (Option ℕ) → (c position least : ℕ) → List Accused → Option Verdict
first_fault roll word c position least [] = None
first_fault roll word c position least (a ∷ more) = option_or (fault_of roll word c position least a) (first_fault roll word c (position + 1) (a.serial + 1) more)

-- ---- who is missing

abbrev pub is_listed : List Accused → ℕ → Bool
is_listed accused serial = list_any (λ (a : Accused). a.serial == serial) accused

-- the licensee of this serial meets the threshold and is not in the list
abbrev pub is_missed : Roll → List (Option ℕ) → ℕ → List Accused → ℕ → Bool
is_missed roll word c accused serial = not (is_listed accused serial) && is_accused roll word c serial

-- the least serial of those
unfoldable pub first_missed : Roll → List (Option ℕ) → ℕ → List Accused → Option ℕ
first_missed roll word c accused = find (is_missed roll word c accused) (serials roll)

-- ---- the verdict

-- the first thing that is wrong with the list
abbrev pub list_verdict : Roll → List (Option ℕ) → ℕ → List Accused → Verdict
list_verdict roll word c accused = unwrap_or (option_or (first_fault roll word c 0 0 accused) (option_map Absent (first_missed roll word c accused))) Right

unfoldable pub verdict : Roll → List (Option ℕ) → Findings → Verdict
verdict roll word f =
    if nat_le (readable word) (not_enough roll.dimension f.bound) then TooFew (readable word) else
    (if f.readable == readable word then list_verdict roll word f.bound f.accused else WrongReadable)
