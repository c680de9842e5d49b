-- What a call of a store or of an output adds to its events. This project's own.
use Rattle.std.specs.Prelude.{ℕ, List, [], ◌∷◌, ◌++◌, Result, Ok, Err}
use Rattle.records.specs.Events.{Event, Gave, Missed, Failed, Took, Refused}
use Rattle.records.specs.Parts.{IsWhole, IsLonger, IsMissed, IsFailed, IsStopped}
use Rattle.shelf_io.specs.declared.errors.ShelfError.{ShelfError}
use Rattle.shelf_io.specs.declared.errors.ShelfError.TheVariants as shelf
use Rattle.shelf_io.specs.declared.errors.SinkError.{SinkError}
use Rattle.shelf_io.specs.declared.errors.FetchError.{FetchError}
use Rattle.shelf_io.specs.declared.errors.FetchError.TheVariants as fetch

-- the events after a read of a part: one more, as it was answered
abbrev pub after_read : {A : Type 0} → (A → List ℕ) → List Event → List ℕ → ℕ → ℕ → Result A ShelfError → List Event
after_read items old name from most (Ok part) = old ++ Gave name from most (items part) ∷ []
after_read items old name from most (Err shelf.Missing) = old ++ Missed name ∷ []
after_read items old name from most (Err shelf.Fault) = old ++ Failed name ∷ []
after_read items old name from most (Err shelf.Memory) = old ++ Failed name ∷ []

-- after a write: one more, as it was answered
abbrev pub after_handing : List Event → List ℕ → List ℕ → Result (Unit {0}) ShelfError → List Event
after_handing old name bytes (Ok done) = old ++ Took name bytes ∷ []
after_handing old name bytes (Err e) = old ++ Refused name bytes ∷ []

-- after a put: one more, under the empty name
abbrev pub after_putting : List Event → List ℕ → Result (Unit {0}) SinkError → List Event
after_putting old bytes (Ok done) = old ++ Took [] bytes ∷ []
after_putting old bytes (Err e) = old ++ Refused [] bytes ∷ []

-- what a refused read of a whole blob adds; want of memory may come at any call
abbrev pub RefusedIs : List ℕ → ℕ → FetchError → List Event → Type 0
RefusedIs name limit fetch.TooLong events = IsLonger name limit events
RefusedIs name limit fetch.Missing events = IsMissed name events
RefusedIs name limit fetch.Fault events = IsFailed name events
RefusedIs name limit fetch.Memory events = IsStopped name events

-- what a fetch adds: all of the blob that it answers, or what led to the refusal
abbrev pub FetchIs : {A : Type 0} → (A → List ℕ) → List ℕ → ℕ → Result A FetchError → List Event → Type 0
FetchIs items name limit (Ok whole) events = IsWhole name (items whole) events
FetchIs items name limit (Err e) events = RefusedIs name limit e events
