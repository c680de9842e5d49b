-- Whom the desk accuses. Source: Silverberg, Staddon and Walker (2003), traceability by agreement with a codeword;
-- that the list is in order of serial is this project's own.
use Rattle.std.specs.Prelude.{ℕ, List, length, map, filter, Bool, Option}
use Rattle.std.specs.List.{range_with_len}
use Rattle.code_terms.specs.Words.{readable, places_of}
use Rattle.decoder_terms.specs.Decoding.{meets_threshold}
use Rattle.desk_terms.specs.declared.findings.Accused.{Accused}
use Rattle.desk_terms.specs.declared.findings.Findings.{Findings}
use Rattle.desk_terms.specs.Roll.{Roll, entry_at, message_at}

-- the licensee with this serial meets the threshold
abbrev pub is_accused : Roll → List (Option ℕ) → ℕ → ℕ → Bool
is_accused roll word c serial = meets_threshold roll.bits roll.dimension word c (message_at roll serial)

-- what is said of the licensee with this serial
abbrev pub accusation : Roll → List (Option ℕ) → ℕ → Accused
accusation roll word serial =
    record { serial = serial; name = (entry_at roll serial).name; places = places_of roll.bits roll.dimension (message_at roll serial) word }

-- the serials of those on the roll, in order
abbrev pub serials : Roll → List ℕ
serials roll = range_with_len 0 (length roll.entries)

-- everyone on the roll who meets the threshold, in order of serial, each with name and places
unfoldable pub findings : Roll → List (Option ℕ) → ℕ → Findings
findings roll word c = record { readable = readable word; bound = c; accused = map (accusation roll word) (filter (is_accused roll word c) (serials roll)) }
