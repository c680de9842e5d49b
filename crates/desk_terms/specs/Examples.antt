-- Small registers and words that were worked out by hand.
use Rattle.std.specs.Prelude.{ℕ, true, List, [], ◌∷◌, ◌++◌, map, Option, Some, None, codes}
use Rattle.std.specs.List.{range_with_len}
use Rattle.std.specs.Fmt.{decimal}
use Rattle.register_terms.specs.Enrolment.{Enrolment}
use Rattle.register_terms.specs.RegisterText.{in_state}
use Rattle.desk_terms.specs.Roll.{Roll}

-- the licensees `lic0`, `lic1` and so on, over GF(16) with dimension 2, each with its serial as message
abbrev pub first_licensees : ℕ → Enrolment
first_licensees n = record { bits = 4; dimension = 2; multiplier = 1; shift = 0; licensees = map (λ j. in_state true (codes "lic" ++ decimal j)) (range_with_len 0 n) }

-- the word that three colluders made, with its last place lost
abbrev pub one_place_lost : List (Option ℕ)
one_place_lost = map Some (0 ∷ 1 ∷ 2 ∷ 3 ∷ 0 ∷ 0 ∷ 0 ∷ 1 ∷ 1 ∷ []) ++ None ∷ []

-- three licensees over the same code, whose messages follow no rule
abbrev pub three_entries : Roll
three_entries = record { bits = 4; dimension = 2; entries = record { message = 16; name = codes "u" } ∷ record { message = 200; name = codes "v" } ∷ record { message = 0; name = codes "w" } ∷ [] }
