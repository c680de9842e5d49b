-- What the answer of a match says. Want of memory is the one answer that is always free. This project's own.
use Rattle.std.specs.Prelude.{◌≡◌, ℕ, ◌≤◌, List, [], length, take, slice_get, All, Option, Some, None, Result, Ok, Err, IfSome, ⊤}
use Rattle.std.specs.Option.{unwrap_or}
use Rattle.sha2.specs.Sha256.{sha256}
use Rattle.shelf_terms.specs.declared.limit.TheConstants.{BLOB_LIMIT}
use Rattle.shelf_terms.specs.Blobs.{Blobs, blob_at}
use Rattle.playlist_terms.specs.Playlists.{Playlist}
use Rattle.title_terms.specs.Titles.{Title}
use Rattle.copy_terms.specs.Copies.{word_of_copy, digests_of}
use Rattle.records.specs.Agreement.{HoldsLonger}
use Rattle.shelf_io.specs.declared.errors.FetchError.{FetchError}
use Rattle.shelf_io.specs.declared.errors.FetchError.TheVariants as fetch
use Rattle.blob_digests.specs.declared.digest.Digest.{Digest}
use Rattle.outcome_terms.specs.declared.refusal.Refusal.{Refusal}
use Rattle.outcome_terms.specs.declared.refusal.Refusal.TheVariants as refusal
use Rattle.outcome_terms.specs.Stores.{Reads}
use Rattle.records.specs.Stores.{Store}
use Rattle.outcome_terms.specs.TraceCommand.{segment_names}
use Rattle.copy_match.specs.declared.error.MatchError.{MatchError}
use Rattle.copy_match.specs.declared.error.MatchError.TheVariants.{Missing, Fault, TooLong, Memory}

-- ---- where the blobs are told

-- the blob of this name is held, and not longer than the limit
pub record IsRead (blobs : Blobs) (name : List ℕ) : Type 0 where
  pub bytes : List ℕ
  pub held : blob_at blobs name ≡ Some bytes
  pub within : length bytes ≤ BLOB_LIMIT

-- the blobs of all these names are read, and these are their digests
pub record HaveDigests (blobs : Blobs) (names digests : List (List ℕ)) : Type 0 where
  pub read : All (IsRead blobs) names
  pub are : digests ≡ digests_of blobs names

-- all segments are read, and this is the word of their digests
pub record IsWord (blobs : Blobs) (t : Title) (copy : Playlist) (word : List (Option ℕ)) : Type 0 where
  pub read : All (IsRead blobs) (segment_names copy)
  pub is : word ≡ word_of_copy t (digests_of blobs (segment_names copy))

-- there is a segment of this number, and where the blobs are told all before it are read, and this stands in its way
pub record StopsAt (InTheWay : Blobs → List ℕ → Type 0) (told : Option Blobs) (copy : Playlist) (i : ℕ) : Type 0 where
  pub name : List ℕ
  pub stands : slice_get (segment_names copy) i ≡ Some name
  pub earlier : IfSome told (λ blobs. All (IsRead blobs) (take i (segment_names copy)))
  pub hindered : IfSome told (λ blobs. InTheWay blobs name)

abbrev pub IsMissing : Blobs → List ℕ → Type 0
IsMissing blobs name = blob_at blobs name ≡ None

abbrev pub IsTooLong : Blobs → List ℕ → Type 0
IsTooLong blobs name = HoldsLonger blobs name BLOB_LIMIT

abbrev pub MayFail : Blobs → List ℕ → Type 0
MayFail blobs name = ⊤

-- The word, or the first segment that is not held or too long, or one whose read failed. No two of the conditions on held segments
-- stand together: so where no read fails and memory does not run out, each answer comes exactly where its condition holds.
abbrev pub Matches : Option Blobs → Title → Playlist → Result (List (Option ℕ)) MatchError → Type 0
Matches told t copy (Ok word) = IfSome told (λ blobs. IsWord blobs t copy word)
Matches told t copy (Err (Missing i)) = StopsAt IsMissing told copy i
Matches told t copy (Err (TooLong i)) = StopsAt IsTooLong told copy i
Matches told t copy (Err (Fault i)) = StopsAt MayFail told copy i
Matches told t copy (Err Memory) = ⊤

-- ---- over any store

-- the name of the segment of a number
abbrev pub name_at : Playlist → ℕ → List ℕ
name_at copy i = unwrap_or (slice_get (segment_names copy) i) []

-- the refusal that names the segment
abbrev pub refusal_of : Playlist → MatchError → Refusal
refusal_of copy (Missing i) = refusal.Missing (name_at copy i)
refusal_of copy (Fault i) = refusal.ReadFault (name_at copy i)
refusal_of copy (TooLong i) = refusal.TooLong (name_at copy i)
refusal_of copy Memory = refusal.Memory

-- the answer, with the name in place of the number
abbrev pub by_name : {A : Type 0} → Playlist → Result A MatchError → Result A Refusal
by_name copy (Ok x) = Ok x
by_name copy (Err e) = Err (refusal_of copy e)

-- where a segment could not be read
abbrev pub stopped_at : ℕ → FetchError → MatchError
stopped_at i fetch.Missing = Missing i
stopped_at i fetch.Fault = Fault i
stopped_at i fetch.TooLong = TooLong i
stopped_at i fetch.Memory = Memory

-- why a blob was not read
abbrev pub read_refusal : List ℕ → FetchError → Refusal
read_refusal name fetch.Missing = refusal.Missing name
read_refusal name fetch.Fault = refusal.ReadFault name
read_refusal name fetch.TooLong = refusal.TooLong name
read_refusal name fetch.Memory = refusal.Memory

-- one read of the blob of a name, of which the digest alone is kept
pub record ReadsAs (name : List ℕ) (old new : Store) (digest : List ℕ) : Type 0 where
  pub bytes : List ℕ
  pub read : Reads name old new (Ok bytes)
  pub is : digest ≡ sha256 bytes

abbrev pub ReadsDigest : List ℕ → Store → Store → Result Digest FetchError → Type 0
ReadsDigest name old new (Ok digest) = ReadsAs name old new digest.bytes
ReadsDigest name old new (Err e) = Reads name old new (Err (read_refusal name e))
