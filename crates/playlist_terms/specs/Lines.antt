-- The lines of a playlist of any kind, by RFC 8216, section 4.1. That a line which is no UTF-8 has a class of its own is
-- this project's rule.
use Rattle.std.specs.Prelude.{ℕ, Bool, ◌&&◌, ◌==◌, not, nat_eq, if◌then◌else◌, List, [], ◌∷◌, ◌++◌, length, slice_index, codes}
use Rattle.std.specs.List.{list_all, slice_split, starts_with, before_first, after_first}
use Rattle.std.specs.Str.{is_utf8}
use Rattle.std.specs.Str.Lines.{strip_carriage_return}

-- ---- cutting a text

-- The lines among the parts between line feeds. Each loses one carriage return at its end, and the last part is a line only
-- where it has bytes.
abbrev pub lines_among : List (List ℕ) → List (List ℕ)
lines_among [] = []
lines_among (part ∷ []) = if length part == 0 then [] else strip_carriage_return part ∷ []
lines_among (part ∷ next ∷ parts) = strip_carriage_return part ∷ lines_among (next ∷ parts)

abbrev pub lines_of : List ℕ → List (List ℕ)
lines_of bytes = lines_among (slice_split (λ b. b == 10) bytes)

-- a line as it is written
abbrev pub fed : List ℕ → List ℕ
fed text = text ++ 10 ∷ []

-- ---- classes of lines

pub data Line : Type 0 where
  -- no UTF-8
  NotText : Line
  -- empty, spaces alone, or a comment
  Silent : Line
  -- a tag's name and its value
  Tag : List ℕ → List ℕ → Line
  Uri : List ℕ → Line

abbrev pub is_spaces : List ℕ → Bool
is_spaces text = list_all (λ b. b == 32) text

abbrev pub begins_with : List ℕ → List ℕ → Bool
begins_with front text = starts_with nat_eq text front

abbrev pub is_colon : ℕ → Bool
is_colon b = b == 58

-- A tag's name reaches to the first colon, and its value stands behind that colon. Without a colon the name is the whole line
-- and the value is empty.
unfoldable pub line_of : List ℕ → Line
line_of text =
    if not (is_utf8 text) then NotText
    else (if is_spaces text then Silent
    else (if begins_with (codes "#EXT") text then Tag (before_first is_colon text) (after_first is_colon text)
    else (if begins_with (codes "#") text then Silent
    else Uri text)))

-- the text of a URI line, which is neither a tag nor a comment, and has more than spaces
abbrev pub stands_as_uri : List ℕ → Bool
stands_as_uri text = not (slice_index text 0 == 35) && not (is_spaces text)
