-- The words of a command. This project's own. A word that is a number is spelled as numbers are, and may be too large for the
-- rule that it is tested by later; every other word after the command has the form of a blob's name.
use Rattle.std.specs.Prelude.{ℕ, List, Option, Some, None, if◌then◌else◌}
use Rattle.text_terms.specs.Names.{is_name}

-- what one word says, and then the others: the first that says nothing makes the whole none
infixl 10 ◌>>?◌
abbrev pub ◌>>?◌ : {A B : Type 0} → Option A → (A → Option B) → Option B
None >>? f = None
(Some x) >>? f = f x

-- a word of the form of a blob's name
abbrev pub named : List ℕ → Option (List ℕ)
named word = if is_name word then Some word else None
