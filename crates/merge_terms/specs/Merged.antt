-- Whom the desk accuses over some pairs: those on the roll whose messages fit enough of them, in order of serial. The findings
-- over a word are the case of its pairs. Source: A. Silverberg, J. Staddon and J. L. Walker, Applications of list decoding to
-- tracing traitors, IEEE Trans. Inform. Theory 49 (2003); that several symbols may stand at a place is this project's own.
use Rattle.std.specs.Prelude.{ℕ, List, length, map, filter, Bool}
use Rattle.pair_terms.specs.Pairs.{Pair, fitting_places}
use Rattle.pair_terms.specs.Recovery.{fits_enough}
use Rattle.desk_terms.specs.declared.findings.Accused.{Accused}
use Rattle.desk_terms.specs.Findings.{serials}
use Rattle.desk_terms.specs.Roll.{Roll, entry_at, message_at}
use Rattle.merge_terms.specs.declared.merged.Merged.{Merged}

-- the licensee with this serial fits enough of the pairs
abbrev pub is_accused_by : Roll → List Pair → ℕ → ℕ → Bool
is_accused_by roll pairs c serial = fits_enough roll.bits roll.dimension pairs c (message_at roll serial)

-- what is said of the licensee with this serial
abbrev pub accusation_by : Roll → List Pair → ℕ → Accused
accusation_by roll pairs serial =
    record { serial = serial; name = (entry_at roll serial).name; places = fitting_places roll.bits roll.dimension (message_at roll serial) pairs }

-- everyone on the roll who fits enough, in order of serial, each with name and places
unfoldable pub accused_by : Roll → List Pair → ℕ → List Accused
accused_by roll pairs c = map (accusation_by roll pairs) (filter (is_accused_by roll pairs c) (serials roll))

-- what the desk finds over the pairs
abbrev pub merged_findings : Roll → List Pair → ℕ → Merged
merged_findings roll pairs c = record { pairs = length pairs; bound = c; accused = accused_by roll pairs c }
