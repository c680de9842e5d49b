-- A film as a distributor has it, for the worked examples: the design of 32 places and a register of eight licensees.
use Rattle.std.specs.Prelude.{ℕ, ◌*◌, List, [], ◌∷◌, map, codes}
use Rattle.std.specs.List.{range_with_len}
use Rattle.register_terms.specs.Enrolment.{Enrolment}
use Rattle.title_terms.specs.Designs.{Design, variant_name}
use Rattle.packaging_terms.specs.Licensees.{symbol_at}
use Rattle.packaging_terms.specs.Pair.{licensee}

-- each 28th of 900 segments is marked
abbrev pub distributed : Design
distributed = record { name = codes "cinema"; bits = 5; dimension = 3; bound = 3; prefix = codes "v/"; suffix = codes ".ts"; marked = map (λ place. place * 28) (range_with_len 0 32) }

abbrev pub cinemas : Enrolment
cinemas = record {
  bits = 5;
  dimension = 3;
  multiplier = 12345;
  shift = 678;
  licensees = licensee (codes "cinema-000") ∷ licensee (codes "cinema-001") ∷ licensee (codes "cinema-002") ∷ licensee (codes "cinema-003")
      ∷ licensee (codes "cinema-004") ∷ licensee (codes "cinema-005") ∷ licensee (codes "cinema-006") ∷ licensee (codes "cinema-007") ∷ [];
}

-- the names of a licensee's variants at the first places
abbrev pub first_variants : ℕ → ℕ → List (List ℕ)
first_variants serial count = map (λ place. variant_name distributed place (symbol_at cinemas serial place)) (range_with_len 0 count)
