-- Pairs of a place and a symbol that stands there. At one place several symbols may stand; a word is the case with at most
-- one symbol a place. Finding the messages that fit enough of such pairs is called list recovery: list decoding asks for the
-- messages that agree with a word, list recovery for those that agree with lists of symbols, one list a place.
-- Source: this project's own.
use Rattle.std.specs.Prelude.{◌≡◌, ◌⊎◌, ℕ, zero, suc, ◌<◌, ◌==◌, Bool, List, [], ◌∷◌, ◌++◌, length, map, filter, All, AllPairs, Option, None, Some}
use Rattle.code_terms.specs.Symbols.{symbol_of}
use Rattle.code_terms.specs.Words.{slot_at}

-- a place and a symbol
abbrev pub Pair : Type 0
Pair = ℕ × ℕ

-- by place, and at one place by symbol
abbrev pub IsBefore : Pair → Pair → Type 0
IsBefore p q = (p.0 < q.0) ⊎ ((p.0 ≡ q.0) × (p.1 < q.1))

-- different pairs in order, of places below n
pub record ArePairs (n : ℕ) (pairs : List Pair) : Type 0 where
  pub ascending : AllPairs IsBefore pairs
  pub places : All (λ p. p.0 < n) pairs

-- every symbol of the pairs is below this limit
abbrev pub HaveSymbolsBelow : ℕ → List Pair → Type 0
HaveSymbolsBelow limit pairs = All (λ p. p.1 < limit) pairs

-- the message u has the pair's symbol at its place
abbrev pub fits : (m k u : ℕ) → Pair → Bool
fits m k u p = p.1 == symbol_of m k u p.0

-- the places where the message's symbol is one of those that stand there, in ascending order
unfoldable pub fitting_places : (m k u : ℕ) → List Pair → List ℕ
fitting_places m k u pairs = map (λ p. p.0) (filter (fits m k u) pairs)

-- how many those are
unfoldable pub fitting_count : (m k u : ℕ) → List Pair → ℕ
fitting_count m k u pairs = length (filter (fits m k u) pairs)

-- the pair of a slot, where it holds a symbol
abbrev pub pair_at : ℕ → Option ℕ → List Pair
pair_at i None = []
pair_at i (Some v) = (i, v) ∷ []

-- the pairs of the first n places of a word
unfoldable pub pairs_below : List (Option ℕ) → ℕ → List Pair
pairs_below word zero = []
pairs_below word (suc i) = pairs_below word i ++ pair_at i (slot_at word i)

-- the pairs of a word, in order
abbrev pub pairs_of : List (Option ℕ) → List Pair
pairs_of word = pairs_below word (length word)
