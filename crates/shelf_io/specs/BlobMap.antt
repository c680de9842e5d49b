-- The blobs that an ordered map of names and bytes holds. This project's own.
use Rattle.std.specs.Prelude.{ℕ, List, map, String, Vec, string_bytes}
use Rattle.std.specs.FinMap.{from_entries}
use Rattle.shelf_terms.specs.Blobs.{Blobs}

module _ {Y Z : Type 0} where
  abbrev pub pair_of : String Y × Vec ℕ Z → List ℕ × List ℕ
  pair_of blob = (string_bytes blob.0, blob.1.items)

  abbrev pub blobs_of : List (String Y × Vec ℕ Z) → Blobs
  blobs_of entries = from_entries (map pair_of entries)
