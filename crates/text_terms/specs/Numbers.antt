-- The spelling of whole numbers: `0`, or decimal digits without a leading zero, with a value below 2^128.
-- This project's own.
use Rattle.std.specs.Prelude.{ℕ, ◌^◌, List, length, slice_index, Bool, ◌&&◌, ◌||◌, ◌==◌, not, nat_lt, Option, Some, None, if◌then◌else◌}
use Rattle.std.specs.Str.{all_ascii_digits}
use Rattle.std.specs.Str.Parse.{digits_value}

-- digits alone, at least one, and a zero in front only where it is the whole text
abbrev pub is_numeral : List ℕ → Bool
is_numeral text = all_ascii_digits text && (nat_lt 0 (length text) && (not (slice_index text 0 == 48) || length text == 1))

-- the number that a text spells
abbrev pub number_of : List ℕ → Option ℕ
number_of text = if is_numeral text && nat_lt (digits_value 10 text) (2 ^ 128) then Some (digits_value 10 text) else None
