-- The digest of a blob, and what a hasher stands for. SHA-256 is that of FIPS 180-4, as the kit's crate `sha2` defines it.
use Rattle.std.specs.Prelude.{◌≡◌, ℕ, ◌≤◌, List, length, Some, None, Result, Ok, Err, IfSome, ⊤}
use Rattle.sha2.specs.Sha256.{sha256}
use Rattle.sha2.specs.Hashers.{Holds256}
use Rattle.shelf_terms.specs.declared.limit.TheConstants.{BLOB_LIMIT}
use Rattle.shelf_terms.specs.Blobs.{blob_at}
use Rattle.records.specs.Stores.{Store}
use Rattle.records.specs.Parts.{Came, IsWhole}
use Rattle.records.specs.Agreement.{HoldsLonger}
use Rattle.shelf_io.specs.declared.errors.FetchError.{FetchError}
use Rattle.shelf_io.specs.declared.errors.FetchError.TheVariants as fetch
use Rattle.blob_digests.specs.declared.digest.Digest.{Digest}
use Rattle.blob_digests.specs.declared.hashing.Hashing.{Hashing}

-- the hasher took these bytes
abbrev pub Stands : Hashing → List ℕ → Type 0
Stands hashing bytes = Holds256 hashing.hasher bytes

-- This is the digest of some bytes of at most 64 MiB: all that the store gave of the name. Where the blobs are told they are the blob
-- of the name.
pub record HasDigest (before after : Store) (name digest : List ℕ) : Type 0 where
  pub blob : List ℕ
  pub held : IfSome before.told (λ blobs. blob_at blobs name ≡ Some blob)
  pub within : length blob ≤ BLOB_LIMIT
  pub came : Came name before.events after.events (IsWhole name blob)
  pub is : digest ≡ sha256 blob

-- The digest of some bytes, which are the blob where the blobs are told; or, where they are told, that it is too long or that there
-- is none.
-- Each answer implies its own condition, and no two of the conditions stand together: so each comes exactly where its condition
-- holds, no part failed and memory did not run out.
abbrev pub DigestGives : Store → Store → List ℕ → Result Digest FetchError → Type 0
DigestGives before after name (Ok digest) = HasDigest before after name digest.bytes
DigestGives before after name (Err fetch.TooLong) = IfSome before.told (λ blobs. HoldsLonger blobs name BLOB_LIMIT)
DigestGives before after name (Err fetch.Missing) = IfSome before.told (λ blobs. blob_at blobs name ≡ None)
DigestGives before after name (Err fetch.Fault) = ⊤
DigestGives before after name (Err fetch.Memory) = ⊤
