-- Readings for the items of a list, one after the other, each given what the earlier ones made. This project's own.
use Rattle.std.specs.Prelude.{List, [], ◌∷◌}
use Rattle.outcome_terms.specs.Reading.{Reading, Give, ◌>>=◌}

unfoldable pub along : {X S : Type 0} → (S → X → Reading S) → S → List X → Reading S
along step made [] = Give made
along step made (x ∷ xs) = do
  more ← step made x
  along step more xs
