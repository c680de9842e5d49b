-- A text as lines: each line ends with a line feed, which is no part of it. This project's own.
use Rattle.std.specs.Prelude.{ℕ, ◌==◌, List, [], ◌∷◌, ◌++◌, length, take, drop, Option, Some, None, if◌then◌else◌}
use Rattle.std.specs.List.{slice_split}
use Rattle.std.specs.Str.{bytes_eq}
use Rattle.std.specs.Fmt.{decimal}
use Rattle.text_terms.specs.Numbers.{number_of}

-- a line of these bytes
abbrev pub line : List ℕ → List ℕ
line text = text ++ 10 ∷ []

-- what stands between the line feeds of these bytes, before the first and behind the last; there is always one part
abbrev pub parts_of : List ℕ → List (List ℕ)
parts_of bytes = slice_split (λ b. b == 10) bytes

-- all parts but the last: a line feed ends each of them
abbrev pub all_but_last : List (List ℕ) → List (List ℕ)
all_but_last [] = []
all_but_last (last ∷ []) = []
all_but_last (text ∷ next ∷ parts) = text ∷ all_but_last (next ∷ parts)

abbrev pub last_part : List (List ℕ) → List ℕ
last_part [] = []
last_part (last ∷ []) = last
last_part (text ∷ next ∷ parts) = last_part (next ∷ parts)

-- the lines that a line feed ends
abbrev pub ended_lines : List ℕ → List (List ℕ)
ended_lines bytes = all_but_last (parts_of bytes)

-- the bytes behind the last line feed
abbrev pub rest_of : List ℕ → List ℕ
rest_of bytes = last_part (parts_of bytes)

-- ---- what a line says

-- a line of a word and a number
abbrev pub number_text : List ℕ → ℕ → List ℕ
number_text word n = word ++ decimal n

-- the bytes that follow a word
abbrev pub after_word : List ℕ → List ℕ → Option (List ℕ)
after_word word text = if bytes_eq (take (length word) text) word then Some (drop (length word) text) else None

-- the number that follows a word
abbrev pub number_after : List ℕ → List ℕ → Option ℕ
number_after word text = if bytes_eq (take (length word) text) word then number_of (drop (length word) text) else None
