-- A word, and the symbols of messages, in rows. This project's own.
use Rattle.std.specs.Prelude.{◌≡◌, ℕ, ◌*◌, ◌/◌, ◌%◌, ◌^◌, ◌<◌, ◌≤◌, Bool, false, if◌then◌else◌, List, [], length, filter, slice_index, slice_index_or, Option, Some, None}
use Rattle.std.specs.List.{range_with_len}
use Rattle.code_terms.specs.Symbols.{symbol_of}
use Rattle.code_terms.specs.Words.{readable, slot_at, agrees}

-- at each of the first n places stands the symbol of the message u
abbrev pub HasSymbols : (m k u n : ℕ) → List ℕ → Type 0
HasSymbols m k u n row = (place : ℕ) → place < n → slice_index row place ≡ symbol_of m k u place

-- the message whose symbols the row of this index has: one digit to the base 16, and zeros behind it
abbrev pub message_of_row : ℕ → ℕ
message_of_row index = (index % 16) * 2 ^ (4 * (index / 16))

-- so many rows have the symbols of their messages, where these are messages of the code
abbrev pub HasRows : (m k n count : ℕ) → List (List ℕ) → Type 0
HasRows m k n count rows = (index : ℕ) → index < count → message_of_row index < 2 ^ (m * k) → HasSymbols m k (message_of_row index) n (slice_index_or rows index [])

-- the rows of all digits of the messages
pub record AreRows (m k n digits : ℕ) (rows : List (List ℕ)) : Type 0 where
  pub whole : m * k ≤ 4 * digits
  pub each : HasRows m k n (16 * digits) rows

-- what the word has at each place, if that can be read; behind its end nothing can
abbrev pub HasSlots : List (Option ℕ) → List ℕ → List Bool → Type 0
HasSlots word symbols known = (place : ℕ) → place < 256 → slot_at word place ≡ (if slice_index_or known place false then Some (slice_index symbols place) else None)

-- these are the slots of the word, and so many of them are readable
pub record AreSlots (word : List (Option ℕ)) (places known_places : ℕ) (symbols : List ℕ) (known : List Bool) : Type 0 where
  pub whole : places ≡ length word
  pub count : known_places ≡ readable word
  pub each : HasSlots word symbols known

-- in how many of the places below n a message and a word agree
abbrev pub agreement_below : (m k u : ℕ) → List (Option ℕ) → ℕ → ℕ
agreement_below m k u word n = length (filter (agrees m k u word) (range_with_len 0 n))
