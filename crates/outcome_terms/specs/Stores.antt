-- How a reading is answered over a store that may fail at any call, and what a write leaves. This project's own.
use Rattle.std.specs.Prelude.{◌≡◌, ℕ, ◌≤◌, List, [], ◌∷◌, ◌++◌, length, Option, Result, Ok, Err, IfSome, IfErr, ⊤}
use Rattle.std.specs.FinMap.{insert}
use Rattle.shelf_terms.specs.Blobs.{Blobs, SameBut}
use Rattle.shelf_terms.specs.Counts.{Rose, Tally}
use Rattle.shelf_terms.specs.Told.{WhereTold}
use Rattle.shelf_terms.specs.declared.limit.TheConstants.{BLOB_LIMIT}
use Rattle.records.specs.Events.{Event, Took, Refused}
use Rattle.records.specs.Stores.{Store}
use Rattle.records.specs.Parts.{Came, IsWhole, IsLonger, IsMissed, IsFailed, IsStopped}
use Rattle.outcome_terms.specs.declared.fault.Fault.{Fault}
use Rattle.outcome_terms.specs.declared.refusal.Refusal.{Refusal}
use Rattle.outcome_terms.specs.declared.refusal.Refusal.TheVariants as refusal
use Rattle.outcome_terms.specs.Reading.{Reading, Give, Refuse, Read, read_blob}

-- an answer with the value seen by `view`
abbrev pub seen : {A B : Type 0} → (A → B) → Result A Refusal → Result B Refusal
seen view (Ok x) = Ok (view x)
seen view (Err e) = Err e

-- Want of memory, and what failed outside, may come in place of what is wanted; everything else is what is wanted.
abbrev pub Answers : {A : Type 0} → Result A Refusal → Result A Refusal → Type 0
Answers (Err refusal.Memory) wanted = ⊤
Answers (Err (refusal.ReadFault name)) wanted = ⊤
Answers (Err (refusal.WriteFault name)) wanted = ⊤
Answers answer wanted = wanted ≡ answer

-- an answer that takes no blob: what the reading says, or want of memory
abbrev pub Settles : {A : Type 0} → Result A Refusal → Reading A → Type 0
Settles (Ok x) reading = reading ≡ Give x
Settles (Err (refusal.Content fault)) reading = reading ≡ Refuse fault
Settles (Err refusal.Memory) reading = ⊤
Settles (Err e) reading = ⊥

-- no count fell
pub record NoneFell (old new : Tally) : Type 0 where
  pub faults : old.faults ≤ new.faults
  pub misses : old.misses ≤ new.misses
  pub write_faults : old.write_faults ≤ new.write_faults

-- a failure outside comes only where its count rose, and a failed read is blamed on its name
abbrev pub Caused : Tally → Tally → Refusal → Type 0
Caused old new (refusal.Missing name) = Rose old.misses new.misses
Caused old new (refusal.ReadFault name) = Rose old.faults new.faults × (new.blamed ≡ name)
Caused old new (refusal.WriteFault name) = Rose old.write_faults new.write_faults
Caused old new e = ⊤

-- a refusal that a read of the name may have
abbrev pub OfRead : List ℕ → Refusal → Type 0
OfRead name refusal.Memory = ⊤
OfRead name (refusal.Missing missing) = missing ≡ name
OfRead name (refusal.ReadFault unread) = unread ≡ name
OfRead name (refusal.TooLong long) = long ≡ name
OfRead name e = ⊥

-- what one read adds to the events: all of the blob that it answers, or what led to the refusal
abbrev pub ReadIs : List ℕ → Result (List ℕ) Refusal → List Event → Type 0
ReadIs name (Ok bytes) events = IsWhole name bytes events × (length bytes ≤ BLOB_LIMIT)
ReadIs name (Err (refusal.TooLong long)) events = IsLonger name BLOB_LIMIT events
ReadIs name (Err (refusal.Missing missing)) events = IsMissed name events
ReadIs name (Err (refusal.ReadFault unread)) events = IsFailed name events
ReadIs name (Err refusal.Memory) events = IsStopped name events
ReadIs name (Err e) events = ⊤

-- one read of the blob of a name
pub record Reads (name : List ℕ) (old new : Store) (answer : Result (List ℕ) Refusal) : Type 0 where
  pub kept : new.told ≡ old.told
  pub none_fell : NoneFell old.counts new.counts
  pub caused : IfErr answer (Caused old.counts new.counts)
  pub of_read : IfErr answer (OfRead name)
  pub came : Came name old.events new.events (ReadIs name answer)
  pub decided : IfSome old.told (λ blobs. Answers answer (read_blob blobs name))

-- The answer of a reading over a store: a value or a refusal that it reaches, by the reads on the way, or want of memory.
pub data Follows {A : Type 0} : Reading A → Store → Store → Result A Refusal → Type 0 where
  gave : {x : A} {s : Store} → Follows (Give x) s s (Ok x)
  refused : {fault : Fault} {s : Store} → Follows (Refuse fault) s s (Err (refusal.Content fault))
  went_on : {name : List ℕ} {next : List ℕ → Reading A} {s t u : Store} {bytes : List ℕ} {answer : Result A Refusal}
      → Reads name s t (Ok bytes) → Follows (next bytes) t u answer → Follows (Read name next) s u answer
  failed : {name : List ℕ} {next : List ℕ → Reading A} {s t : Store} {e : Refusal} → Reads name s t (Err e) → Follows (Read name next) s t (Err e)
  no_memory : {reading : Reading A} {s : Store} → Follows reading s s (Err refusal.Memory)

-- ---- writing

-- what the text of a written blob has to be
pub data Writing : Type 0 where
  -- these bytes and no others
  Exactly : List ℕ → Writing

abbrev pub IsWriting : Writing → List ℕ → Type 0
IsWriting (Exactly text) bytes = bytes ≡ text

-- where the blobs are told: the name holds the text, and no other blob has changed
abbrev pub Holds : List ℕ → List ℕ → Option Blobs → Option Blobs → Type 0
Holds out text old new = WhereTold (λ before after. after ≡ insert before out text) old new

-- where the blobs are told: no other blob than this has changed
abbrev pub OnlyChanges : List ℕ → Option Blobs → Option Blobs → Type 0
OnlyChanges out old new = WhereTold (SameBut out) old new

-- a refusal that a write to the name may have
abbrev pub OfWrite : List ℕ → Refusal → Type 0
OfWrite out refusal.Memory = ⊤
OfWrite out (refusal.WriteFault unwritten) = unwritten ≡ out
OfWrite out e = ⊥

-- one write of a text under a name
abbrev pub WriteLeaves : List ℕ → List ℕ → Option Blobs → Option Blobs → Result (Unit {0}) Refusal → Type 0
WriteLeaves out text old new (Ok done) = Holds out text old new
WriteLeaves out text old new (Err e) = OnlyChanges out old new

-- what one write adds to the events: the text was handed in once, and taken or refused
abbrev pub HandedIn : List ℕ → List ℕ → List Event → List Event → Result (Unit {0}) Refusal → Type 0
HandedIn out text old new (Ok done) = new ≡ old ++ Took out text ∷ []
HandedIn out text old new (Err e) = new ≡ old ++ Refused out text ∷ []

pub record Writes (out text : List ℕ) (old new : Store) (answer : Result (Unit {0}) Refusal) : Type 0 where
  pub leaves : WriteLeaves out text old.told new.told answer
  pub none_fell : NoneFell old.counts new.counts
  pub caused : IfErr answer (Caused old.counts new.counts)
  pub of_write : IfErr answer (OfWrite out)
  pub handed_in : HandedIn out text old.events new.events answer
