-- Words: at each place a symbol, or an erasure, which is `None`. Where a message agrees with a word.
-- The agreement is what list decoders count; see V. Guruswami and M. Sudan, Improved decoding of Reed-Solomon and
-- algebraic-geometry codes, IEEE Trans. Inform. Theory 45 (1999).
use Rattle.std.specs.Prelude.{ℕ, ◌<◌, Bool, false, List, [], ◌∷◌, length, Option, None, Some, is_some, IfSome, All, slice_index_or, map, filter, count_by, ◌==◌}
use Rattle.std.specs.List.{range_with_len}
use Rattle.code_terms.specs.Symbols.{symbol_of}

-- how many places are readable: those that are no erasure
abbrev pub readable : List (Option ℕ) → ℕ
readable word = count_by is_some word

-- what stands at place i; an erasure past the end
abbrev pub slot_at : List (Option ℕ) → ℕ → Option ℕ
slot_at word i = slice_index_or word i None

-- whether a slot holds this symbol
abbrev pub holds_symbol : Option ℕ → ℕ → Bool
holds_symbol None v = false
holds_symbol (Some w) v = w == v

-- whether the word has at place i the symbol that the message u has there
abbrev pub agrees : ℕ → ℕ → ℕ → List (Option ℕ) → ℕ → Bool
agrees m k u word i = holds_symbol (slot_at word i) (symbol_of m k u i)

-- every symbol of the word is below this limit
abbrev pub HasSymbolsBelow : ℕ → List (Option ℕ) → Type 0
HasSymbolsBelow limit word = All (λ slot. IfSome slot (λ v. v < limit)) word

-- the places where they agree, in ascending order
unfoldable pub places_of : ℕ → ℕ → ℕ → List (Option ℕ) → List ℕ
places_of m k u word = filter (agrees m k u word) (range_with_len 0 (length word))

-- in how many places they agree
unfoldable pub agreement_of : ℕ → ℕ → ℕ → List (Option ℕ) → ℕ
agreement_of m k u word = length (places_of m k u word)

-- the codeword of the message u: its symbols at the first n places
unfoldable pub codeword_of : ℕ → ℕ → ℕ → ℕ → List (Option ℕ)
codeword_of m k u n = map (λ i. Some (symbol_of m k u i)) (range_with_len 0 n)

-- a word of ten places that three colluders made
abbrev pub three_colluders : List (Option ℕ)
three_colluders = map Some (0 ∷ 1 ∷ 2 ∷ 3 ∷ 0 ∷ 0 ∷ 0 ∷ 1 ∷ 1 ∷ 1 ∷ [])
