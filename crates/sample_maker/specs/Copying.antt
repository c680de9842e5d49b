-- What the coalition of a sample gets, and the copy that it puts together. This project's own.
use Rattle.std.specs.Prelude.{ℕ, ◌-◌, false, map}
use Rattle.std.specs.List.{range_with_len}
use Rattle.playlist_terms.specs.Playlists.{PlaylistSegment, Playlist}
use Rattle.title_terms.specs.Designs.{variant_name}
use Rattle.packaging_terms.specs.Licensees.{licensed_list}
use Rattle.sample_terms.specs.Inputs.{register_of, title_of, design}
use Rattle.sample_terms.specs.Copies.{copied_symbol}

-- the list that a licensee gets
abbrev pub list_for : ℕ → ℕ → Playlist
list_for number serial = licensed_list (title_of number) (register_of number) serial

-- the segment that is copied at a place
abbrev pub copied_segment : ℕ → ℕ → PlaylistSegment
copied_segment number place = record { micros = 6000000; uri = variant_name design place (copied_symbol number place); cut = false }

-- the copy with so many segments, of the places from 29 down
unfoldable pub copy_of : ℕ → ℕ → Playlist
copy_of number count = record { version = 3; target = 6; sequence = 0; segments = map (λ i. copied_segment number (29 - i)) (range_with_len 0 count) }
