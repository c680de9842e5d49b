-- How a read was answered, and what the answer says of the blobs. This project's own.
use Rattle.std.specs.Prelude.{◌≡◌, ℕ, Bool, true, false, List, Option, Some, None, Result, Ok, Err, IfSome, ⊤}
use Rattle.shelf_terms.specs.Blobs.{Blobs, blob_at, part_of}
use Rattle.records.specs.Agreement.{HoldsLonger}
use Rattle.shelf_io.specs.declared.errors.ShelfError.{ShelfError}
use Rattle.shelf_io.specs.declared.errors.ShelfError.TheVariants as shelf
use Rattle.shelf_io.specs.declared.errors.FetchError.{FetchError}
use Rattle.shelf_io.specs.declared.errors.FetchError.TheVariants as fetch

abbrev pub part_failed : {A : Type 0} → Result A ShelfError → Bool
part_failed (Err shelf.Fault) = true
part_failed _ = false

abbrev pub part_missed : {A : Type 0} → Result A ShelfError → Bool
part_missed (Err shelf.Missing) = true
part_missed _ = false

-- these bytes are the part of the blob under the name
pub record HasPart (blobs : Blobs) (name : List ℕ) (from most : ℕ) (part : List ℕ) : Type 0 where
  pub blob : List ℕ
  pub held : blob_at blobs name ≡ Some blob
  pub bytes : part ≡ part_of blob from most

-- Where the blobs are told: the part of the blob, or that there is none. The bytes of an answer are `items` of it.
abbrev pub PartGives : {A : Type 0} → (A → List ℕ) → Option Blobs → List ℕ → ℕ → ℕ → Result A ShelfError → Type 0
PartGives items told name from most (Ok part) = IfSome told (λ blobs. HasPart blobs name from most (items part))
PartGives items told name from most (Err shelf.Missing) = IfSome told (λ blobs. blob_at blobs name ≡ None)
PartGives items told name from most (Err shelf.Fault) = ⊤
PartGives items told name from most (Err shelf.Memory) = ⊤

abbrev pub fetch_failed : {A : Type 0} → Result A FetchError → Bool
fetch_failed (Err fetch.Fault) = true
fetch_failed _ = false

abbrev pub fetch_missed : {A : Type 0} → Result A FetchError → Bool
fetch_missed (Err fetch.Missing) = true
fetch_missed _ = false

-- Where the blobs are told: the whole blob, or that it is too long, or that there is none.
-- Each answer implies its own condition, and no two of the conditions stand together: so each comes exactly where its condition holds and no part failed.
abbrev pub FetchGives : {A : Type 0} → (A → List ℕ) → Option Blobs → List ℕ → ℕ → Result A FetchError → Type 0
FetchGives items told name limit (Ok whole) = IfSome told (λ blobs. blob_at blobs name ≡ Some (items whole))
FetchGives items told name limit (Err fetch.TooLong) = IfSome told (λ blobs. HoldsLonger blobs name limit)
FetchGives items told name limit (Err fetch.Missing) = IfSome told (λ blobs. blob_at blobs name ≡ None)
FetchGives items told name limit (Err fetch.Fault) = ⊤
FetchGives items told name limit (Err fetch.Memory) = ⊤
