-- Blobs that would have answered so. This project's own.
use Rattle.std.specs.Prelude.{◌≡◌, ℕ, ◌<◌, ◌≤◌, List, [], ◌∷◌, ◌++◌, length, take, drop, Some, None}
use Rattle.std.specs.FinMap.{insert}
use Rattle.shelf_terms.specs.Blobs.{Blobs, blob_at, SameBut}
use Rattle.records.specs.Events.{Event, Gave, Missed, Failed, Took, Refused}
use Rattle.records.specs.Stores.{Store}

-- these bytes stand in the blob under the name, from the place on, and there are none only where it ends
pub record IsPart (blobs : Blobs) (name : List ℕ) (from : ℕ) (part : List ℕ) : Type 0 where
  pub blob : List ℕ
  pub held : blob_at blobs name ≡ Some blob
  pub bytes : part ≡ take (length part) (drop from blob)
  pub ends : part ≡ [] → length blob ≤ from

-- the blob under the name has more bytes than so many
pub record HoldsLonger (blobs : Blobs) (name : List ℕ) (limit : ℕ) : Type 0 where
  pub blob : List ℕ
  pub held : blob_at blobs name ≡ Some blob
  pub longer : limit < length blob

-- The blobs before and after, if all that happened between is what these events say: each part that was given is that of the blob,
-- a name that was missed is not there, and what was taken is there from then on.
unfoldable pub Agrees : Blobs → List Event → Blobs → Type 0
Agrees old [] new = new ≡ old
Agrees old (Gave name from most bytes ∷ events) new = IsPart old name from bytes × Agrees old events new
Agrees old (Missed name ∷ events) new = (blob_at old name ≡ None) × Agrees old events new
Agrees old (Failed name ∷ events) new = Agrees old events new
Agrees old (Took name bytes ∷ events) new = Agrees (insert old name bytes) events new
Agrees old (Refused name bytes ∷ events) new = (between : Blobs) × (SameBut name old between × Agrees between events new)

-- these blobs, before and after, agree with what the store was asked and answered in between
pub record AgreesBetween (blobs left : Blobs) (old new : Store) : Type 0 where
  pub events : List Event
  pub is : new.events ≡ old.events ++ events
  pub agrees : Agrees blobs events left

-- the same store, if it told that it holds these blobs
abbrev pub supposing : Blobs → Store → Store
supposing blobs s = record { told = Some blobs; counts = s.counts; events = s.events }

-- what holds between the stores, if they told blobs that agree with what was asked and answered in between, whatever these are
abbrev pub Supposed : Store → Store → (Blobs → Store → Store → Type 0) → Type 0
Supposed old new Holds = (blobs left : Blobs) → AgreesBetween blobs left old new → Holds blobs (supposing blobs old) (supposing left new)
