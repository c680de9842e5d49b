-- The text of a word: tokens with one comma between two of them, and at most one line feed behind the last. A token is
-- `-` for an erasure, or the spelling of a symbol, a number below 2^m. A word has at most 2^m places.
-- This project's own.
use Rattle.std.specs.Prelude.{ℕ, ◌+◌, ◌-◌, ◌^◌, List, [], ◌∷◌, length, take, slice_index, if◌then◌else◌, Option, None, Some, Result, Ok, Err, ◌==◌, nat_lt, nat_le, bytes_eq}
use Rattle.std.specs.List.{slice_split}
use Rattle.text_terms.specs.Numbers.{number_of}
use Rattle.code_terms.specs.declared.word_fault.WordFault.{WordFault}
use Rattle.code_terms.specs.declared.word_fault.WordFault.TheVariants.{Token, Long}

-- a text without one line feed at its end
abbrev pub without_line_feed : List ℕ → List ℕ
without_line_feed bytes = if slice_index bytes (length bytes - 1) == 10 then take (length bytes - 1) bytes else bytes

-- the tokens: the parts between the commas, so that the empty text has one empty token
abbrev pub tokens_of : List ℕ → List (List ℕ)
tokens_of bytes = slice_split (λ b. b == 44) (without_line_feed bytes)

-- a number, where it is a symbol
abbrev pub symbol_below : ℕ → Option ℕ → Option (Option ℕ)
symbol_below limit None = None
symbol_below limit (Some v) = if nat_lt v limit then Some (Some v) else None

-- the slot that a token stands for, where it stands for one
unfoldable pub slot_of : ℕ → List ℕ → Option (Option ℕ)
slot_of limit token = if bytes_eq token (45 ∷ []) then Some None else symbol_below limit (number_of token)

-- a word with one more slot in front
abbrev pub with_slot : Option ℕ → Result (List (Option ℕ)) WordFault → Result (List (Option ℕ)) WordFault
with_slot slot (Ok word) = Ok (slot ∷ word)
with_slot slot (Err fault) = Err fault

-- a slot in front of the others, or the fault of the token at this place
abbrev pub first_and_rest : ℕ → Option (Option ℕ) → Result (List (Option ℕ)) WordFault → Result (List (Option ℕ)) WordFault
first_and_rest place None others = Err (Token place)
first_and_rest place (Some slot) others = with_slot slot others

-- the word of tokens whose first stands at this place, or the first fault
unfoldable pub slots_from : ℕ → ℕ → List (List ℕ) → Result (List (Option ℕ)) WordFault
slots_from limit place [] = Ok []
slots_from limit place (token ∷ tokens) =
    if nat_le limit place then Err Long else first_and_rest place (slot_of limit token) (slots_from limit (place + 1) tokens)

-- the word over symbols of m bits that a text spells, or the text's first fault
unfoldable pub word_of : ℕ → List ℕ → Result (List (Option ℕ)) WordFault
word_of m bytes = slots_from (2 ^ m) 0 (tokens_of bytes)
