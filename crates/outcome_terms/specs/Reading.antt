-- What a command makes of the blobs that it reads, one after the other. This project's own.
use Rattle.std.specs.Prelude.{◌≡◌, ℕ, List, [], ◌∷◌, length, nat_le, Bool, true, Option, Some, None, Result, Ok, Err, ⊤, if◌then◌else◌}
use Rattle.shelf_terms.specs.declared.limit.TheConstants.{BLOB_LIMIT}
use Rattle.shelf_terms.specs.Blobs.{Blobs, blob_at}
use Rattle.outcome_terms.specs.declared.status.Status.{Status}
use Rattle.outcome_terms.specs.declared.status.Status.TheVariants as status
use Rattle.outcome_terms.specs.declared.fault.Fault.{Fault}
use Rattle.outcome_terms.specs.declared.refusal.Refusal.{Refusal}
use Rattle.outcome_terms.specs.declared.refusal.Refusal.TheVariants.{Missing, TooLong, Content}
use Rattle.outcome_terms.specs.Statuses.{fault_line}

-- A reading ends with a value, or with a fault of what it has read, or it reads the blob of a name and goes on with its bytes.
pub data Reading (A : Type 0) : Type 0 where
  Give : A → Reading A
  Refuse : Fault → Reading A
  Read : (name : List ℕ) → (List ℕ → Reading A) → Reading A

-- one reading, and then another with what it gave
infixl 10 ◌>>=◌
unfoldable pub ◌>>=◌ : {A B : Type 0} → Reading A → (A → Reading B) → Reading B
(Give x) >>= f = f x
(Refuse fault) >>= f = Refuse fault
(Read name next) >>= f = Read name (λ bytes. next bytes >>= f)

-- what stands in the way, if anything: it has to be so, or is refused with the fault
abbrev pub require : Bool → Fault → Option Fault
require is_so fault = if is_so then None else Some fault

-- goes on only where nothing stands in the way
infixl 10 ◌>>◌
abbrev pub ◌>>◌ : {B : Type 0} → Option Fault → Reading B → Reading B
None >> next = next
(Some fault) >> next = Refuse fault

-- the bytes under a name
abbrev pub blob : List ℕ → Reading (List ℕ)
blob name = Read name Give

-- what a text says, or how it breaks its form
abbrev pub understood : {A F : Type 0} → (F → Fault) → Result A F → Reading A
understood fault (Ok x) = Give x
understood fault (Err f) = Refuse (fault f)

-- what was looked for, or a refusal where it is not there
abbrev pub found : {A : Type 0} → Fault → Option A → Reading A
found fault (Some x) = Give x
found fault None = Refuse fault

-- a reading of each, one after the other
unfoldable pub each : {X A : Type 0} → (X → Reading A) → List X → Reading (List A)
each step [] = Give []
each step (x ∷ xs) = do
  y ← step x
  ys ← each step xs
  Give (y ∷ ys)

-- ---- over a map of blobs

-- a blob is read where it is not above the limit
abbrev pub within_limit : List ℕ → Option (List ℕ) → Result (List ℕ) Refusal
within_limit name None = Err (Missing name)
within_limit name (Some bytes) = if nat_le (length bytes) BLOB_LIMIT then Ok bytes else Err (TooLong name)

-- the bytes under a name
abbrev pub read_blob : Blobs → List ℕ → Result (List ℕ) Refusal
read_blob blobs name = within_limit name (blob_at blobs name)

abbrev pub with_bytes : {A : Type 0} → Result (List ℕ) Refusal → (List ℕ → Result A Refusal) → Result A Refusal
with_bytes (Ok bytes) next = next bytes
with_bytes (Err e) next = Err e

-- what a reading gives over these blobs
unfoldable pub given : {A : Type 0} → Blobs → Reading A → Result A Refusal
given blobs (Give x) = Ok x
given blobs (Refuse fault) = Err (Content fault)
given blobs (Read name next) = with_bytes (read_blob blobs name) (λ bytes. given blobs (next bytes))

abbrev pub names_with : Result (List ℕ) Refusal → (List ℕ → List (List ℕ)) → List (List ℕ)
names_with (Ok bytes) next = next bytes
names_with (Err e) next = []

-- the names of the blobs that it reads over them, in order
unfoldable pub names_read : {A : Type 0} → Blobs → Reading A → List (List ℕ)
names_read blobs (Give x) = []
names_read blobs (Refuse fault) = []
names_read blobs (Read name next) = name ∷ names_with (read_blob blobs name) (λ bytes. names_read blobs (next bytes))

-- ---- over any store

-- the reading reads the blob of this name, for some answers on the way
pub data Asks {A : Type 0} : Reading A → List ℕ → Type 0 where
  now : {name : List ℕ} {next : List ℕ → Reading A} → Asks (Read name next) name
  later : {name asked : List ℕ} {next : List ℕ → Reading A} (bytes : List ℕ) → Asks (next bytes) asked → Asks (Read name next) asked

-- the statuses of a read that failed
pub record AllowsReads (may : Status → Bool) : Type 0 where
  pub missing : may status.Missing ≡ true
  pub failed : may status.ReadFault ≡ true
  pub long : may status.TooLong ≡ true

-- Whatever the blobs are, the reading refuses only with these statuses, and where it reads a blob they have those of a read.
unfoldable pub Within : {A : Type 0} → (Status → Bool) → Reading A → Type 0
Within may (Give x) = ⊤
Within may (Refuse fault) = may (fault_line fault).status ≡ true
Within may (Read name next) = AllowsReads may × ((bytes : List ℕ) → Within may (next bytes))
