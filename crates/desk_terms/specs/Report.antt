-- The text of a report: compact JSON with its keys in ascending order, and a line feed. This project's own, over RFC 8259.
-- Each name stands as it is, since a plain name has no character that JSON escapes.
use Rattle.std.specs.Prelude.{ℕ, zero, suc, List, [], ◌∷◌, ◌++◌, map, codes}
use Rattle.std.specs.List.{join_with_byte}
use Rattle.std.specs.Fmt.{decimal}
use Rattle.desk_terms.specs.declared.findings.Accused.{Accused}
use Rattle.desk_terms.specs.declared.findings.Findings.{Findings}

-- texts with a comma between each two
abbrev pub comma_separated : List (List ℕ) → List ℕ
comma_separated texts = join_with_byte 44 texts

-- the comma that stands before each item of a list but the first
abbrev pub comma_before : ℕ → List ℕ
comma_before zero = []
comma_before (suc i) = 44 ∷ []

-- one of the accused: name, places and serial
unfoldable pub accused_text : Accused → List ℕ
accused_text a =
    codes "{\"name\":\"" ++ (a.name ++ (codes "\",\"places\":[" ++ (comma_separated (map decimal a.places) ++ (codes "],\"serial\":" ++ (decimal a.serial ++ codes "}")))))

-- what follows the list of the accused: the bound and the number of readable places
abbrev pub numbers_text : ℕ → ℕ → List ℕ
numbers_text bound readable = codes "],\"bound\":" ++ (decimal bound ++ (codes ",\"readable\":" ++ (decimal readable ++ codes "}\n")))

-- the whole report
unfoldable pub report_text : Findings → List ℕ
report_text f = codes "{\"accused\":[" ++ (comma_separated (map accused_text f.accused) ++ numbers_text f.bound f.readable)
