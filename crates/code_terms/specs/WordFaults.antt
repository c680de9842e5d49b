-- What a text of a word is, told token by token beside the reading, and where its first fault stands.
-- This project's own.
use Rattle.std.specs.Prelude.{◌≡◌, ℕ, ◌<◌, ◌≤◌, true, List, [], length, map, take, slice_index_or, Option, Some, None}
use Rattle.std.specs.List.{list_all}
use Rattle.std.specs.Option.{is_some}
use Rattle.code_terms.specs.WordText.{slot_of}

-- each of these tokens stands for a slot
abbrev pub are_slots : ℕ → List (List ℕ) → Type 0
are_slots limit tokens = list_all (λ token. is_some (slot_of limit token)) tokens ≡ true

-- the tokens stand for this word, which has no more places than there are symbols
pub record SpellWord (limit : ℕ) (tokens : List (List ℕ)) (word : List (Option ℕ)) : Type 0 where
  pub slots : map (slot_of limit) tokens ≡ map Some word
  pub places : length tokens ≤ limit

-- the tokens before this place begin a word, and the token there does not go on with it
pub record IsFirstBroken (limit : ℕ) (tokens : List (List ℕ)) (place : ℕ) : Type 0 where
  pub inside : place < length tokens
  pub has_room : place < limit
  pub begins : are_slots limit (take place tokens)
  pub broken : slot_of limit (slice_index_or tokens place []) ≡ None

-- a whole word stands before a further token
pub record IsOverlong (limit : ℕ) (tokens : List (List ℕ)) : Type 0 where
  pub more : limit < length tokens
  pub whole : are_slots limit (take limit tokens)
