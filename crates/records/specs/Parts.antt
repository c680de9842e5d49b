-- A blob that was read part by part. This project's own.
use Rattle.std.specs.Prelude.{◌≡◌, ℕ, ◌≤◌, ◌<◌, List, [], ◌∷◌, ◌++◌, length, ⊤, ◌⊎◌}
use Rattle.records.specs.declared.limit.TheConstants.{PART_LIMIT}
use Rattle.records.specs.Events.{Event, Gave, Missed, Failed, Took, Refused}

-- nothing was asked for but this name, and nothing handed in
unfoldable pub OnlyReads : List ℕ → List Event → Type 0
OnlyReads name [] = ⊤
OnlyReads name (Gave asked from most bytes ∷ events) = (asked ≡ name) × OnlyReads name events
OnlyReads name (Missed asked ∷ events) = (asked ≡ name) × OnlyReads name events
OnlyReads name (Failed asked ∷ events) = (asked ≡ name) × OnlyReads name events
OnlyReads name (Took asked bytes ∷ events) = ⊥
OnlyReads name (Refused asked bytes ∷ events) = ⊥

-- These bytes were given from the place 0 on, part behind part, none empty, each asked for where the one before it ended.
-- A part may be shorter than what was asked for, and is not the end then.
pub data Front (name : List ℕ) : List ℕ → List Event → Type 0 where
  begun : Front name [] []
  grown : {bytes : List ℕ} {events : List Event} (part : List ℕ) → 1 ≤ length part → Front name bytes events
      → Front name (bytes ++ part) (events ++ Gave name (length bytes) PART_LIMIT part ∷ [])

-- all of the bytes, and then an empty part behind them
pub record IsWhole (name bytes : List ℕ) (events : List Event) : Type 0 where
  pub before : List Event
  pub front : Front name bytes before
  pub is : events ≡ before ++ Gave name (length bytes) PART_LIMIT [] ∷ []

-- some bytes, maybe none
pub record IsFront (name : List ℕ) (events : List Event) : Type 0 where
  pub bytes : List ℕ
  pub front : Front name bytes events

-- more bytes than so many
pub record IsLonger (name : List ℕ) (limit : ℕ) (events : List Event) : Type 0 where
  pub bytes : List ℕ
  pub front : Front name bytes events
  pub longer : limit < length bytes

-- some bytes, maybe none, and then this event
pub record EndsWith (name : List ℕ) (last : Event) (events : List Event) : Type 0 where
  pub bytes : List ℕ
  pub before : List Event
  pub front : Front name bytes before
  pub is : events ≡ before ++ last ∷ []

abbrev pub IsMissed : List ℕ → List Event → Type 0
IsMissed name events = EndsWith name (Missed name) events

abbrev pub IsFailed : List ℕ → List Event → Type 0
IsFailed name events = EndsWith name (Failed name) events

-- some bytes, maybe none, and then nothing more or a refused call
abbrev pub IsStopped : List ℕ → List Event → Type 0
IsStopped name events = IsFront name events ⊎ (IsMissed name events ⊎ IsFailed name events)

-- What was added to the events by one read of the blob of a name.
pub record Came (name : List ℕ) (old new : List Event) (Is : List Event → Type 0) : Type 0 where
  pub events : List Event
  pub after : new ≡ old ++ events
  pub reads : OnlyReads name events
  pub is : Is events
