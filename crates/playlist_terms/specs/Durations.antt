-- A segment's duration, which is kept in whole microseconds, read and written: RFC 8216, section 4.3.2.1. What becomes of
-- the digits behind the sixth is this project's own.
use Rattle.std.specs.Prelude.{ℕ, zero, suc, ◌+◌, ◌*◌, ◌/◌, ◌%◌, ◌&&◌, ◌==◌, if◌then◌else◌, List, [], ◌∷◌, ◌++◌, take, codes, Option, Some, None}
use Rattle.std.specs.Fmt.{decimal}
use Rattle.std.specs.List.{before_first, after_first}
use Rattle.std.specs.Str.{all_ascii_digits}
use Rattle.std.specs.Str.Parse.{digits_value}
use Rattle.playlist_terms.specs.TagValues.{are_digits}

-- ---- reading

-- the first six digits behind the point, where a missing one is a zero
abbrev pub first_six : List ℕ → List ℕ
first_six fraction = take 6 (fraction ++ codes "000000")

abbrev pub seconds_to_micros : List ℕ → List ℕ → ℕ
seconds_to_micros seconds fraction = digits_value 10 seconds * 1000000 + digits_value 10 (first_six fraction)

-- 1 to 10 digits of seconds, and any number of digits behind the point
abbrev pub micros_of_parts : List ℕ → List ℕ → Option ℕ
micros_of_parts seconds fraction = if are_digits 10 seconds && all_ascii_digits fraction then Some (seconds_to_micros seconds fraction) else None

-- the duration in the value of an `#EXTINF`: what stands in front of the first comma, with or without a point
abbrev pub duration_of : List ℕ → Option ℕ
duration_of value =
    let number = before_first (λ b. b == 44) value in
    micros_of_parts (before_first (λ b. b == 46) number) (after_first (λ b. b == 46) number)

-- ---- writing

-- the lowest so many decimal digits of a number
abbrev pub low_digits : ℕ → ℕ → List ℕ
low_digits zero n = []
low_digits (suc more) n = low_digits more (n / 10) ++ (48 + n % 10) ∷ []

-- seconds, a point, and six digits
abbrev pub duration_text : ℕ → List ℕ
duration_text micros = decimal (micros / 1000000) ++ (codes "." ++ low_digits 6 (micros % 1000000))
