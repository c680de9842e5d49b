-- The word of a copy: at each place the one symbol whose variant the copy has. A segment is told by its SHA-256 digest alone: two
-- contents with one digest are the same. This project's own.
use Rattle.std.specs.Prelude.{ℕ, Bool, false, List, [], ◌∷◌, map, filter, Option, Some, None}
use Rattle.std.specs.List.{list_any, range_with_len}
use Rattle.std.specs.Option.{option_map_or, unwrap_or}
use Rattle.std.specs.Str.{bytes_eq}
use Rattle.sha2.specs.Sha256.{sha256}
use Rattle.shelf_terms.specs.Blobs.{Blobs, blob_at}
use Rattle.title_terms.specs.Designs.{places, symbols}
use Rattle.title_terms.specs.Titles.{Title, digest_at}

-- whether a segment with one of these digests is the variant of this symbol at this place
abbrev pub shows : Title → List (List ℕ) → ℕ → ℕ → Bool
shows t digests place symbol = option_map_or (λ digest. list_any (bytes_eq digest) digests) (digest_at t place symbol) false

-- all symbols that are shown at a place
abbrev pub shown : Title → List (List ℕ) → ℕ → List ℕ
shown t digests place = filter (shows t digests place) (range_with_len 0 (symbols t.design))

-- the only one, if there is just one
abbrev pub only : List ℕ → Option ℕ
only (symbol ∷ []) = Some symbol
only symbols = None

-- the word of a copy whose segments have these digests
unfoldable pub word_of_copy : Title → List (List ℕ) → List (Option ℕ)
word_of_copy t digests = map (λ place. only (shown t digests place)) (range_with_len 0 (places t.design))

-- the digests of the blobs of these names
abbrev pub digests_of : Blobs → List (List ℕ) → List (List ℕ)
digests_of blobs names = map (λ name. sha256 (unwrap_or (blob_at blobs name) [])) names
