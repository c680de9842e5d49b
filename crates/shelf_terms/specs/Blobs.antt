-- What a store of blobs holds: bytes under names. This project's own.
use Rattle.std.specs.Prelude.{◌≡◌, ◌≢◌, ℕ, List, take, drop, Option}
use Rattle.std.specs.Ordering.{nat_cmp}
use Rattle.std.specs.Cmp.Lexicographic.{slice_cmp}
use Rattle.std.specs.FinMap.{FinMap, get}

-- from the bytes of a name to the bytes of its blob
abbrev pub Blobs : Type 0
Blobs = FinMap (slice_cmp nat_cmp) (List ℕ)

-- the blob under a name, if there is one
abbrev pub blob_at : Blobs → List ℕ → Option (List ℕ)
blob_at blobs name = get blobs name

-- at most so many bytes of a blob, from a place on, counted from 0
abbrev pub part_of : List ℕ → ℕ → ℕ → List ℕ
part_of blob from most = take most (drop from blob)

-- every other name holds what it held
abbrev pub SameBut : List ℕ → Blobs → Blobs → Type 0
SameBut name old new = (other : List ℕ) → other ≢ name → blob_at new other ≡ blob_at old other
