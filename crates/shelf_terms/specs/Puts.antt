-- What stands in an output after something was put there. This project's own.
use Rattle.std.specs.Prelude.{◌≡◌, ℕ, ◌-◌, List, ◌++◌, length, take}

-- a prefix of the text was put, maybe none or all of it
abbrev pub Puts : List ℕ → List ℕ → List ℕ → Type 0
Puts old new text = new ≡ old ++ take (length new - length old) text
