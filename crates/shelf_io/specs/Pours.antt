-- What a taker stands for after a blob was poured into it. This project's own.
use Rattle.std.specs.Prelude.{◌≡◌, ℕ, ◌≤◌, Bool, true, List, [], ◌++◌, length, take, Option, Some, None, Result, Ok, Err, IfSome, ⊤}
use Rattle.std.specs.Option.{unwrap_or}
use Rattle.shelf_terms.specs.Blobs.{Blobs, blob_at}
use Rattle.records.specs.Stores.{Store}
use Rattle.records.specs.Parts.{Came, IsWhole}
use Rattle.records.specs.Agreement.{HoldsLonger}
use Rattle.shelf_io.specs.declared.errors.FetchError.{FetchError}
use Rattle.shelf_io.specs.declared.errors.FetchError.TheVariants as fetch

-- a prefix of the blob under the name; nothing where there is none
abbrev pub IsPrefixOf : List ℕ → Blobs → List ℕ → Type 0
IsPrefixOf prefix blobs name = prefix ≡ take (length prefix) (unwrap_or (blob_at blobs name) [])

-- these bytes came behind all that the taker stood for
abbrev pub Adds : (List ℕ → Type 0) → (List ℕ → Type 0) → List ℕ → Type 0
Adds old new bytes = (before : List ℕ) → old before → new (before ++ bytes)

-- some bytes came; where the blobs are told they are a prefix of the blob
pub record HasPoured (old new : List ℕ → Type 0) (told : Option Blobs) (name : List ℕ) : Type 0 where
  pub prefix : List ℕ
  pub adds : Adds old new prefix
  pub is : IfSome told (λ blobs. IsPrefixOf prefix blobs name)

-- some bytes came, no more than the limit: all that the store gave of the name. Where the blobs are told they are the whole blob.
pub record HasPouredWhole (old new : List ℕ → Type 0) (before after : Store) (name : List ℕ) (limit : ℕ) : Type 0 where
  pub blob : List ℕ
  pub held : IfSome before.told (λ blobs. blob_at blobs name ≡ Some blob)
  pub within : length blob ≤ limit
  pub came : Came name before.events after.events (IsWhole name blob)
  pub adds : Adds old new blob

-- By the answer: some bytes within the limit came, which are the whole blob where the blobs are told; or, where they are told, it
-- is too long, or there is none. After a refusal other than want of memory a prefix of it came.
abbrev pub PourGives : (List ℕ → Type 0) → (List ℕ → Type 0) → Store → Store → List ℕ → ℕ → Result (Unit {0}) FetchError → Type 0
PourGives old new before after name limit (Ok _) = HasPouredWhole old new before after name limit
PourGives old new before after name limit (Err fetch.Missing) = IfSome before.told (λ blobs. blob_at blobs name ≡ None) × HasPoured old new before.told name
PourGives old new before after name limit (Err fetch.TooLong) = IfSome before.told (λ blobs. HoldsLonger blobs name limit) × HasPoured old new before.told name
PourGives old new before after name limit (Err fetch.Fault) = HasPoured old new before.told name
PourGives old new before after name limit (Err fetch.Memory) = ⊤

-- want of memory alone spends a taker
abbrev pub IsSpentOnlyBefore : Bool → Bool → Result (Unit {0}) FetchError → Type 0
IsSpentOnlyBefore old new (Err fetch.Memory) = ⊤
IsSpentOnlyBefore old new _ = new ≡ true → old ≡ true
