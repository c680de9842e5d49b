-- What a register of licensees is: the code that its messages belong to, the rule that gives each serial its message, and
-- the licensees in the order in which they were enrolled. A licensee's serial is its place. This project's own.
use Rattle.std.specs.Prelude.{◌≡◌, ◌≢◌, ℕ, ◌+◌, ◌*◌, ◌%◌, ◌^◌, ◌<◌, ◌≤◌, Bool, true, List, length, map, Option, min}
use Rattle.std.specs.List.{All, AllPairs, position}
use Rattle.std.specs.Str.{bytes_eq}
use Rattle.text_terms.specs.Names.{is_plain}
use Rattle.register_terms.specs.declared.refusal.TheConstants.{MOST_LICENSEES}

-- someone who was enrolled: a name, and whether the licence is held still. A licensee that is not active is withdrawn.
pub record Licensee : Type 0 where
  pub name : List ℕ
  pub active : Bool

pub record Enrolment : Type 0 where
  pub bits : ℕ
  pub dimension : ℕ
  pub multiplier : ℕ
  pub shift : ℕ
  pub licensees : List Licensee

abbrev pub names_of : List Licensee → List (List ℕ)
names_of licensees = map (λ x. x.name) licensees

-- how many messages there are: a message is so many symbols of so many bits
abbrev pub message_count : Enrolment → ℕ
message_count e = 2 ^ (e.bits * e.dimension)

-- how many licensees a register can hold: one for each message, and never more than the limit, which is 200,000
abbrev pub capacity : Enrolment → ℕ
capacity e = min (message_count e) MOST_LICENSEES

-- the message of a serial
abbrev pub message_of : Enrolment → ℕ → ℕ
message_of e serial = (e.multiplier * serial + e.shift) % message_count e

-- the serial of a name: its first place, and in a valid register its only one
abbrev pub serial_of : List (List ℕ) → List ℕ → Option ℕ
serial_of names name = position (bytes_eq name) names

pub record IsValid (e : Enrolment) : Type 0 where
  pub bits_low : 4 ≤ e.bits
  pub bits_high : e.bits ≤ 8
  pub dimension_low : 2 ≤ e.dimension
  pub dimension_high : e.dimension ≤ 13
  pub odd : e.multiplier % 2 ≡ 1
  pub multiplier_below : e.multiplier < message_count e
  pub shift_below : e.shift < message_count e
  pub plain : All (λ name. is_plain name ≡ true) (names_of e.licensees)
  pub distinct : AllPairs (λ x y. x ≢ y) (names_of e.licensees)
  pub room : length e.licensees ≤ capacity e
