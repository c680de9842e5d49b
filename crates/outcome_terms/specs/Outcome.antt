-- What a command does and what that leaves, over a map of blobs and over any store. This project's own.
use Rattle.std.specs.Prelude.{◌≡◌, ℕ, List, [], Bool, true, false, Option, Some, None, Result, Ok, Err}
use Rattle.std.specs.FinMap.{insert}
use Rattle.shelf_terms.specs.Blobs.{Blobs}
use Rattle.outcome_terms.specs.declared.status.Status.{Status}
use Rattle.outcome_terms.specs.declared.status.Status.TheVariants as status
use Rattle.outcome_terms.specs.declared.refusal.Refusal.{Refusal}
use Rattle.outcome_terms.specs.declared.refusal.Refusal.TheVariants as refusal
use Rattle.outcome_terms.specs.Statuses.{refusal_status}
use Rattle.outcome_terms.specs.Reading.{Reading, Give, Refuse, Read, Asks, given, names_read}
use Rattle.outcome_terms.specs.Stores.{Follows, Writing, IsWriting, Writes}
use Rattle.records.specs.Stores.{Store}
use Rattle.outcome_terms.specs.Commands.{Deed, Nothing, Put, Write, deed, request_of}

-- ---- over a map of blobs

-- what a command does that is not refused
pub data Effect : Type 0 where
  -- a text is put out, and the blobs stay
  Puts : List ℕ → Effect
  -- a blob is written, and nothing is put out
  Wrote : (out : List ℕ) → Writing → Effect

abbrev pub puts : Result (List ℕ) Refusal → Result Effect Refusal
puts (Ok text) = Ok (Puts text)
puts (Err e) = Err e

abbrev pub writes : List ℕ → Result Writing Refusal → Result Effect Refusal
writes out (Ok writing) = Ok (Wrote out writing)
writes out (Err e) = Err e

abbrev pub outcome_of : Deed → Blobs → Result Effect Refusal
outcome_of Nothing blobs = Err refusal.BadWords
outcome_of (Put reading) blobs = puts (given blobs reading)
outcome_of (Write out reading) blobs = writes out (given blobs reading)

-- the outcome of a list of words
abbrev pub outcome : List (List ℕ) → Blobs → Result Effect Refusal
outcome words blobs = outcome_of (deed (request_of words)) blobs

-- the status of an outcome
abbrev pub outcome_status : Result Effect Refusal → Status
outcome_status (Ok effect) = status.Ok
outcome_status (Err e) = refusal_status e

-- a status that the words and the blobs do not decide
abbrev pub is_free_status : Status → Bool
is_free_status status.Memory = true
is_free_status status.ReadFault = true
is_free_status status.WriteFault = true
is_free_status status.OutFault = true
is_free_status s = false

-- the names of the blobs that a command reads over these, in order
abbrev pub deed_names : Deed → Blobs → List (List ℕ)
deed_names Nothing blobs = []
deed_names (Put reading) blobs = names_read blobs reading
deed_names (Write out reading) blobs = names_read blobs reading

-- a blob of such a text was written
pub record HasWritten (blobs : Blobs) (out : List ℕ) (writing : Writing) (told : Option Blobs) : Type 0 where
  pub text : List ℕ
  pub is_writing : IsWriting writing text
  pub after : told ≡ Some (insert blobs out text)

-- what the blobs are after an effect, and what is left to be put out
abbrev pub LeavesEffect : Result Effect Refusal → Blobs → Option Blobs → Option (List ℕ) → Type 0
LeavesEffect (Ok (Puts text)) blobs told left = (told ≡ Some blobs) × (left ≡ Some text)
LeavesEffect (Ok (Wrote out writing)) blobs told left = HasWritten blobs out writing told × (left ≡ None)
LeavesEffect (Err e) blobs told left = ⊥

-- ---- over any store

-- The answer of a command is the text that is left to be put out, which a command that writes has not.
pub data Performs : Deed → Store → Store → Result (Option (List ℕ)) Refusal → Type 0 where
  unknown : {s : Store} → Performs Nothing s s (Err refusal.BadWords)
  made : {text : List ℕ} {reading : Reading (List ℕ)} {s t : Store} → Follows reading s t (Ok text) → Performs (Put reading) s t (Ok (Some text))
  not_made : {reading : Reading (List ℕ)} {s t : Store} {e : Refusal} → Follows reading s t (Err e) → Performs (Put reading) s t (Err e)
  wrote : {out text : List ℕ} {writing : Writing} {reading : Reading Writing} {s t u : Store}
      → Follows reading s t (Ok writing) → IsWriting writing text → Writes out text t u (Ok tt) → Performs (Write out reading) s u (Ok None)
  stopped : {out : List ℕ} {reading : Reading Writing} {s t : Store} {e : Refusal} → Follows reading s t (Err e) → Performs (Write out reading) s t (Err e)
  lost : {out text : List ℕ} {writing : Writing} {reading : Reading Writing} {s t u : Store} {e : Refusal}
      → Follows reading s t (Ok writing) → IsWriting writing text → Writes out text t u (Err e) → Performs (Write out reading) s u (Err e)

-- a command reads the blob of this name, for some answers on the way
abbrev pub DeedAsks : Deed → List ℕ → Type 0
DeedAsks Nothing name = ⊥
DeedAsks (Put reading) name = Asks reading name
DeedAsks (Write out reading) name = Asks reading name

-- the name of the blob that a command writes
abbrev pub written_name : Deed → Option (List ℕ)
written_name Nothing = None
written_name (Put reading) = None
written_name (Write out reading) = Some out

-- the refusal that comes before a blob is read
abbrev pub first_refusal : {A : Type 0} → Reading A → Option Refusal
first_refusal (Give x) = None
first_refusal (Refuse fault) = Some (refusal.Content fault)
first_refusal (Read name next) = None

-- what the words alone refuse a command with
abbrev pub refused_by_words : Deed → Option Refusal
refused_by_words Nothing = Some refusal.BadWords
refused_by_words (Put reading) = first_refusal reading
refused_by_words (Write out reading) = first_refusal reading
