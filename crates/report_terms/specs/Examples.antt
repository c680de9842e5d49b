-- Small findings that were worked out by hand.
use Rattle.std.specs.Prelude.{ℕ, List, [], ◌∷◌, ◌++◌, codes}
use Rattle.std.specs.Fmt.{decimal}
use Rattle.desk_terms.specs.declared.findings.Accused.{Accused}
use Rattle.desk_terms.specs.declared.findings.Findings.{Findings}
use Rattle.desk_terms.specs.Examples.{first_licensees}
use Rattle.desk_terms.specs.Roll.{Roll, roll_of}

-- twenty licensees, each with its serial as message
abbrev pub twenty : Roll
twenty = roll_of (first_licensees 20)

-- one of them, with these places
abbrev pub licensee : ℕ → List ℕ → Accused
licensee serial places = record { serial = serial; name = codes "lic" ++ decimal serial; places = places }

-- the three colluders
abbrev pub first : Accused
first = licensee 0 (0 ∷ 4 ∷ 5 ∷ 6 ∷ [])

abbrev pub second : Accused
second = licensee 1 (1 ∷ 7 ∷ 8 ∷ 9 ∷ [])

abbrev pub third : Accused
third = licensee 16 (0 ∷ 1 ∷ 2 ∷ 3 ∷ [])

-- findings in their word
abbrev pub found : List Accused → Findings
found accused = record { readable = 10; bound = 3; accused = accused }

-- what another word says of one licensee
abbrev pub one_found : Findings
one_found = record { readable = 2; bound = 1; accused = licensee 5 (0 ∷ 1 ∷ []) ∷ [] }
