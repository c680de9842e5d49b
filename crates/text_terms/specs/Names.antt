-- The rules on names. This project's own.
use Rattle.std.specs.Prelude.{ℕ, List, length, Bool, ◌&&◌, ◌||◌, ◌==◌, not, nat_le}
use Rattle.std.specs.List.{list_all}
use Rattle.std.specs.Char.{is_ascii_alphanumeric}

-- a byte of a text that is no control character: those of a character above 127 are all above 127
abbrev pub is_printable : ℕ → Bool
is_printable b = nat_le 32 b && not (b == 127)

-- a blob's name or a URI: 1 to 1,024 bytes without control characters
abbrev pub is_name : List ℕ → Bool
is_name text = nat_le 1 (length text) && (nat_le (length text) 1024 && list_all is_printable text)

-- a letter or a digit of ASCII, `.`, `_` or `-`
abbrev pub is_plain_character : ℕ → Bool
is_plain_character b = is_ascii_alphanumeric b || (b == 46 || (b == 95 || b == 45))

-- a licensee's or a title's name: 1 to 64 such characters
abbrev pub is_plain : List ℕ → Bool
is_plain text = nat_le 1 (length text) && (nat_le (length text) 64 && list_all is_plain_character text)
