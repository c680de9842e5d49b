-- What is promised of a whole call: the whole, and what follows from it. This project's own.
use Rattle.std.specs.Prelude.{◌≡◌, ◌≢◌, ℕ, List, [], ◌∷◌, ◌++◌, Contains, Bool, true, false, Option, Some, None, Result, Ok, Err, IfSome, ⊤, ◌⊎◌}
use Rattle.std.specs.Result.{IsOk, IsErr}
use Rattle.shelf_terms.specs.Blobs.{Blobs}
use Rattle.shelf_terms.specs.Counts.{Rose, Tally}
use Rattle.shelf_terms.specs.Told.{WhereTold}
use Rattle.outcome_terms.specs.declared.status.Status.{Status}
use Rattle.outcome_terms.specs.declared.status.Status.TheVariants as status
use Rattle.outcome_terms.specs.declared.refusal.Refusal.{Refusal}
use Rattle.outcome_terms.specs.Statuses.{status_code, refusal_status}
use Rattle.outcome_terms.specs.Request.{Request}
use Rattle.outcome_terms.specs.Stores.{NoneFell, OnlyChanges, Writing, IsWriting}
use Rattle.outcome_terms.specs.Reading.{Reading}
use Rattle.outcome_terms.specs.Replays.{ReadSo}
use Rattle.records.specs.Events.{Event, Took}
use Rattle.records.specs.Stores.{Store, Output}
use Rattle.outcome_terms.specs.Commands.{Deed, Nothing, Put, Write, deed, request_of, later_statuses}
use Rattle.outcome_terms.specs.Outcome.{Effect, Puts, Wrote, HasWritten, Performs, DeedAsks, written_name, deed_names, refused_by_words, outcome_of}
use Rattle.outcome_terms.specs.Output.{Delivers}

-- The whole: the answer that the command had, and how it was delivered.
pub record Ends (words : List (List ℕ)) (old new : Store) (s : Status) (before after : Output) : Type 0 where
  pub answer : Result (Option (List ℕ)) Refusal
  pub performed : Performs (deed (request_of words)) old new answer
  pub delivered : Delivers answer s before after

-- ---- what follows from it

-- the numbers of the statuses that a command may end with: where the words refuse it, that status alone and want of memory
abbrev pub row_behind : Option Refusal → List ℕ → List ℕ
row_behind None later = later
row_behind (Some e) later = 1 ∷ status_code (refusal_status e) ∷ []

abbrev pub row : Option Request → List ℕ
row request = row_behind (refused_by_words (deed request)) (later_statuses request)

-- the words alone refuse the command: no blob is read or written, whatever the store tells
pub record IsRefused (e : Refusal) (s : Status) (old new : Store) : Type 0 where
  pub ends : (s ≡ refusal_status e) ⊎ (s ≡ status.Memory)
  pub untouched : new ≡ old

-- a status after which the blob to be written may have changed
abbrev pub may_change : Status → Bool
may_change status.Ok = true
may_change status.Memory = true
may_change status.WriteFault = true
may_change s = false

-- no blob but the one to be written has changed
abbrev pub OnlyWrites : Option (List ℕ) → Option Blobs → Option Blobs → Type 0
OnlyWrites None old new = new ≡ old
OnlyWrites (Some out) old new = OnlyChanges out old new

pub record SparesBlobs (d : Deed) (s : Status) (old new : Option Blobs) : Type 0 where
  pub others : OnlyWrites (written_name d) old new
  pub kept : may_change s ≡ false → new ≡ old
  -- where the outcome is a refusal nothing is written, whatever the status
  pub refused : IfSome old (λ blobs. IsErr (outcome_of d blobs) → new ≡ old)

-- all of a text was put, where the output is told
abbrev pub TellsWhole : List ℕ → Option (List ℕ) → Option (List ℕ) → Type 0
TellsWhole text old new = WhereTold (λ before after. after ≡ before ++ text) old new

-- a command that is done has its outcome's effect on the blobs and on the output
abbrev pub HasEffect : Result Effect Refusal → Blobs → Option Blobs → Output → Output → Type 0
HasEffect (Ok (Puts text)) blobs told before after = (told ≡ Some blobs) × TellsWhole text before.written after.written
HasEffect (Ok (Wrote out writing)) blobs told before after = HasWritten blobs out writing told × (after ≡ before)
HasEffect (Err e) blobs told before after = ⊥

-- a command that writes a blob puts nothing
abbrev pub KeepsOutput : Option (List ℕ) → Status → Output → Output → Type 0
KeepsOutput None s before after = ⊤
KeepsOutput (Some out) s before after = (s ≢ status.OutFault) × (s ≡ status.Ok → after ≡ before)

-- which count rose where the status says that something failed outside
pub record StatusCauses (old new : Tally) (rose : Type 0) (s : Status) : Type 0 where
  pub missing : s ≡ status.Missing → Rose old.misses new.misses
  pub read_fault : s ≡ status.ReadFault → Rose old.faults new.faults
  pub write_fault : s ≡ status.WriteFault → Rose old.write_faults new.write_faults
  pub out_fault : s ≡ status.OutFault → rose
  pub none_fell : NoneFell old new

-- A read fails only at a blob that the command gets to, and a write only where there is a text to be written.
pub record GetsSoFar (d : Deed) (old new : Store) (s : Status) : Type 0 where
  pub reads : s ≡ status.ReadFault → DeedAsks d new.counts.blamed
  pub reads_told : s ≡ status.ReadFault → IfSome old.told (λ blobs. Contains (deed_names d blobs) new.counts.blamed)
  pub writes : s ≡ status.WriteFault → (name : List ℕ) × (written_name d ≡ Some name)
  pub writes_told : s ≡ status.WriteFault → IfSome old.told (λ blobs. IsOk (outcome_of d blobs))

-- ---- over every store, what was done with what was read

-- Whole blobs were read and no other, the reading, answered with just their bytes, gives the text, and this was put out.
pub record PutSo (reading : Reading (List ℕ)) (old new : Store) (before after : Output) : Type 0 where
  pub text : List ℕ
  pub read : ReadSo reading old.events new.events text
  pub put : TellsWhole text before.written after.written
  pub taken : after.events ≡ before.events ++ Took [] text ∷ []

-- The same of a text that was written under a name: nothing else was handed in.
pub record WroteSo (out : List ℕ) (reading : Reading Writing) (old new : Store) : Type 0 where
  pub writing : Writing
  pub text : List ℕ
  pub between : List Event
  pub read : ReadSo reading old.events between writing
  pub is_writing : IsWriting writing text
  pub taken : new.events ≡ between ++ Took out text ∷ []

abbrev pub DoneSo : Deed → Store → Store → Output → Output → Type 0
DoneSo Nothing old new before after = ⊥
DoneSo (Put reading) old new before after = PutSo reading old new before after
DoneSo (Write out reading) old new before after = WroteSo out reading old new × (after ≡ before)
