-- Those on a roll whose messages are among some. This project's own.
use Rattle.std.specs.Prelude.{◌≡◌, ◌≢◌, ℕ, ◌<◌, List, length, map, All, AllPairs, Contains}
use Rattle.desk_terms.specs.declared.findings.Accused.{Accused}
use Rattle.merge_terms.specs.Merged.{accusation_by}
use Rattle.pair_terms.specs.Pairs.{Pair}
use Rattle.desk_terms.specs.Roll.{Roll, message_at}

abbrev pub serial_of : Accused → ℕ
serial_of one = one.serial

-- in any order, each of them once
pub record AreKnown (roll : Roll) (pairs : List Pair) (messages : List ℕ) (accused : List Accused) : Type 0 where
  pub only : All (λ one. (one.serial < length roll.entries) × Contains messages (message_at roll one.serial) × (one ≡ accusation_by roll pairs one.serial)) accused
  pub every : (serial : ℕ) → serial < length roll.entries → Contains messages (message_at roll serial) → Contains (map serial_of accused) serial
  pub apart : AllPairs (λ x y. x.serial ≢ y.serial) accused
