-- Whole numbers as the values of tags, by RFC 8216, section 4.2. The limits are this project's own.
use Rattle.std.specs.Prelude.{ℕ, ◌^◌, Bool, ◌&&◌, nat_le, nat_lt, if◌then◌else◌, List, length, Option, Some, None}
use Rattle.std.specs.Str.{all_ascii_digits}
use Rattle.std.specs.Str.Parse.{digits_value}

-- decimal digits alone: one at least, and so many at most
abbrev pub are_digits : ℕ → List ℕ → Bool
are_digits most text = all_ascii_digits text && (nat_le 1 (length text) && nat_le (length text) most)

-- a number below 2^64 in 1 to 20 digits, of which the first may be zeros
abbrev pub whole_number_of : List ℕ → Option ℕ
whole_number_of text = if are_digits 20 text && nat_lt (digits_value 10 text) (2 ^ 64) then Some (digits_value 10 text) else None

-- the number where it can be a version of the protocol
abbrev pub as_version : Option ℕ → Option ℕ
as_version None = None
as_version (Some n) = if nat_le 1 n && nat_le n 65535 then Some n else None
