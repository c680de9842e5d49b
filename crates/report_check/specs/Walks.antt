-- One step of a walk beside a list. This project's own.
use Rattle.std.specs.Prelude.{ℕ, ◌+◌, ◌≤◌, Bool, true, false, ◌==◌, if◌then◌else◌, List, [], ◌∷◌, Option, Some, None}
use Rattle.desk_terms.specs.declared.findings.Accused.{Accused}

-- the serials ascend, from `least` on
abbrev pub Ascend : ℕ → List Accused → Type 0
Ascend least [] = Unit {0}
Ascend least (a ∷ more) = (least ≤ a.serial) × Ascend (a.serial + 1) more

-- whether this serial is the first of these
abbrev pub is_next : List Accused → ℕ → Bool
is_next [] serial = false
is_next (a ∷ more) serial = a.serial == serial

-- the position behind a licensee, where the rest of the list from the position on is this: None where the licensee meets the
-- threshold and is missing
abbrev pub position_after : List Accused → (position serial : ℕ) → (meets : Bool) → Option ℕ
position_after rest position serial meets = if is_next rest serial then Some (position + 1) else (if meets then None else Some position)

-- the position behind a place of the word, in the same way: None where message and word agree there and the list has another place
abbrev pub place_after : List ℕ → (position : ℕ) → (agree : Bool) → (place : ℕ) → Option ℕ
place_after rest position false place = Some position
place_after [] position true place = None
place_after (x ∷ more) position true place = if x == place then Some (position + 1) else None
