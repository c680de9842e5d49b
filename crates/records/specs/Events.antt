-- What a store or an output was asked, and what it answered. This project's own.
use Rattle.std.specs.Prelude.{ℕ, List}

-- One call each. An output has no names: its events are the last two, under the empty name.
pub data Event : Type 0 where
  -- at most so many bytes of a name were asked for, from a place on, and these were given
  Gave : (name : List ℕ) (from most : ℕ) (bytes : List ℕ) → Event
  -- the name was asked for, and is not there
  Missed : (name : List ℕ) → Event
  -- the name was asked for, and nothing was given for another reason
  Failed : (name : List ℕ) → Event
  -- the bytes were handed in under the name, and taken
  Took : (name bytes : List ℕ) → Event
  -- the bytes were handed in and refused: the name may hold anything since, or nothing
  Refused : (name bytes : List ℕ) → Event
