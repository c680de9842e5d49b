-- Small lists of pairs that were worked out by hand.
use Rattle.std.specs.Prelude.{List, [], ◌∷◌}
use Rattle.pair_terms.specs.Pairs.{Pair}

-- two symbols at one place
abbrev pub two_at_once : List Pair
two_at_once = (0, 3) ∷ (0, 5) ∷ []

-- the word that three colluders made, with a second symbol at its fifth place
abbrev pub two_at_the_fifth : List Pair
two_at_the_fifth = (0, 0) ∷ (1, 1) ∷ (2, 2) ∷ (3, 3) ∷ (4, 0) ∷ (4, 1) ∷ (5, 0) ∷ (6, 0) ∷ (7, 1) ∷ (8, 1) ∷ (9, 1) ∷ []
