-- A small design for the worked examples: ten marked segments for coalitions of three.
use Rattle.std.specs.Prelude.{ℕ, List, [], ◌∷◌, set, codes, Result}
use Rattle.std.specs.List.{flat_map}
use Rattle.form_terms.specs.TextLines.{line}
use Rattle.title_terms.specs.declared.fault.DesignFault.{DesignFault}
use Rattle.title_terms.specs.Designs.{Design}
use Rattle.title_terms.specs.DesignText.{design_of}

abbrev pub film_design : Design
film_design = record { name = codes "film"; bits = 4; dimension = 2; bound = 3; prefix = codes "v/"; suffix = codes ".ts"; marked = 0 ∷ 1 ∷ 2 ∷ 3 ∷ 4 ∷ 5 ∷ 6 ∷ 7 ∷ 8 ∷ 9 ∷ [] }

-- its document, a line for each key
abbrev pub film_lines : List (List ℕ)
film_lines =
    codes "name = \"film\""
    ∷ codes "m = 4"
    ∷ codes "k = 2"
    ∷ codes "c = 3"
    ∷ codes "prefix = \"v/\""
    ∷ codes "suffix = \".ts\""
    ∷ codes "marked = [0, 1, 2, 3, 4, 5, 6, 7, 8, 9]"
    ∷ []

abbrev pub designed : List (List ℕ) → Result Design DesignFault
designed lines = design_of (flat_map line lines)

-- the document with another line for the key of this number, counted from 0
abbrev pub film_with : ℕ → List ℕ → List (List ℕ)
film_with key text = set film_lines key text

-- the same for two keys
abbrev pub film_with_two : ℕ → List ℕ → ℕ → List ℕ → List (List ℕ)
film_with_two key text other more = set (film_with key text) other more
