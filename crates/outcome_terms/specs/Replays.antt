-- A reading whose reads were answered with these bytes, one after the other. This project's own.
use Rattle.std.specs.Prelude.{◌≡◌, ℕ, List, [], ◌∷◌, ◌++◌, Some, ⊤}
use Rattle.shelf_terms.specs.Blobs.{Blobs, blob_at}
use Rattle.records.specs.Events.{Event}
use Rattle.records.specs.Parts.{IsWhole}
use Rattle.outcome_terms.specs.Reading.{Reading, Give, Refuse, Read}

-- what was read: a name, and all of its bytes
pub record Got : Type 0 where
  pub name : List ℕ
  pub bytes : List ℕ

-- the events are these reads, one after the other, each of a whole blob, and nothing else
pub data AreReads : List Got → List Event → Type 0 where
  none : AreReads [] []
  more : {reads : List Got} {events then : List Event} (name bytes : List ℕ) → IsWhole name bytes events → AreReads reads then
      → AreReads (record { name = name; bytes = bytes } ∷ reads) (events ++ then)

-- the reading gives the value, if exactly its reads are answered so
unfoldable pub Replays : {A : Type 0} → Reading A → List Got → A → Type 0
Replays (Give x) [] y = x ≡ y
Replays (Give x) (got ∷ reads) y = ⊥
Replays (Refuse fault) reads y = ⊥
Replays (Read name next) [] y = ⊥
Replays (Read name next) (got ∷ reads) y = (got.name ≡ name) × Replays (next got.bytes) reads y

-- Between the one and the other state of a store exactly whole blobs were read, one after the other, and the reading, answered with
-- just these bytes, gives the value.
pub record ReadSo {A : Type 0} (reading : Reading A) (old new : List Event) (x : A) : Type 0 where
  pub reads : List Got
  pub events : List Event
  pub is : new ≡ old ++ events
  pub are : AreReads reads events
  pub replays : Replays reading reads x

-- the blobs hold all that was read
unfoldable pub Hold : Blobs → List Got → Type 0
Hold blobs [] = ⊤
Hold blobs (got ∷ reads) = (blob_at blobs got.name ≡ Some got.bytes) × Hold blobs reads
