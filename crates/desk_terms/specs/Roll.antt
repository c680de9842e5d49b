-- A roll of licensees, which is all that a trace knows of a register: the code that their messages belong to, and the
-- message and the name of each. A licensee's serial is the place on the roll. This project's own.
use Rattle.std.specs.Prelude.{◌≡◌, ℕ, ◌*◌, ◌^◌, ◌<◌, true, List, [], length, map, slice_index_or}
use Rattle.std.specs.List.{All, enumerate_from}
use Rattle.text_terms.specs.Names.{is_plain}
use Rattle.register_terms.specs.Enrolment.{Enrolment, names_of, message_of}

pub record Entry : Type 0 where
  pub message : ℕ
  pub name : List ℕ

pub record Roll : Type 0 where
  -- the bits of a symbol
  pub bits : ℕ
  -- how many symbols a message has
  pub dimension : ℕ
  pub entries : List Entry

-- past the last entry stands one without a name
abbrev pub no_entry : Entry
no_entry = record { message = 0; name = [] }

abbrev pub entry_at : Roll → ℕ → Entry
entry_at roll serial = slice_index_or roll.entries serial no_entry

abbrev pub message_at : Roll → ℕ → ℕ
message_at roll serial = (entry_at roll serial).message

-- what is kept: messages of the code, no two the same, plain names, and serials of 32 bits
pub record IsRoll (roll : Roll) : Type 0 where
  pub below : All (λ entry. entry.message < 2 ^ (roll.bits * roll.dimension)) roll.entries
  pub apart : (i j : ℕ) → i < length roll.entries → j < length roll.entries → message_at roll i ≡ message_at roll j → i ≡ j
  pub plain : All (λ entry. is_plain entry.name ≡ true) roll.entries
  pub few : length roll.entries < 2 ^ 32

-- the entry of a licensee of a register
abbrev pub entry_of : Enrolment → ℕ × List ℕ → Entry
entry_of e licensee = record { message = message_of e licensee.0; name = licensee.1 }

-- the roll of a register: each name with the message of its serial, whether the licensee is active or withdrawn
abbrev pub roll_of : Enrolment → Roll
roll_of e = record { bits = e.bits; dimension = e.dimension; entries = map (entry_of e) (enumerate_from 0 (names_of e.licensees)) }
