-- The variants of a design in order: place by place, and at each place symbol by symbol. This project's own.
use Rattle.std.specs.Prelude.{ℕ, ◌*◌, ◌/◌, ◌%◌, nat_le, List, length, Option}
use Rattle.std.specs.List.{range_with_len, find}
use Rattle.playlist_terms.specs.Playlists.{Playlist}
use Rattle.title_terms.specs.Designs.{Design, places, symbols, variant_name}

-- the numbers of all variants
abbrev pub variants : Design → List ℕ
variants d = range_with_len 0 (places d * symbols d)

abbrev pub place_in : Design → ℕ → ℕ
place_in d variant = variant / symbols d

abbrev pub symbol_in : Design → ℕ → ℕ
symbol_in d variant = variant % symbols d

-- the blob of a variant
abbrev pub blob_of : Design → ℕ → List ℕ
blob_of d variant = variant_name d (place_in d variant) (symbol_in d variant)

-- the first marked number that no segment of the list has
abbrev pub unmarkable : Design → Playlist → Option ℕ
unmarkable d p = find (λ segment. nat_le (length p.segments) segment) d.marked
