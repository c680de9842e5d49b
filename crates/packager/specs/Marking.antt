-- A title's media list with a variant at each marked segment, by a word that says which symbols. This project's own.
use Rattle.std.specs.Prelude.{ℕ, ◌<◌, ◌≤◌, max, List, length, slice_index, map, Option, Some, None}
use Rattle.std.specs.List.{enumerate_from}
use Rattle.std.specs.Option.{unwrap_or}
use Rattle.code_terms.specs.Words.{slot_at}
use Rattle.playlist_terms.specs.Playlists.{PlaylistSegment, Playlist}
use Rattle.title_terms.specs.Designs.{places, symbols, variant_name}
use Rattle.title_terms.specs.Titles.{Title}
use Rattle.packaging_terms.specs.Licensees.{place_of, raised_target}

-- the symbol that a word has at a place
abbrev pub symbol_in : List (Option ℕ) → ℕ → ℕ
symbol_in word place = unwrap_or (slot_at word place) 0

-- at every place of the title the word has a symbol of it
pub record AreSymbols (t : Title) (word : List (Option ℕ)) : Type 0 where
  pub below : (place : ℕ) → place < places t.design → symbol_in word place < symbols t.design

-- the name of a segment that is marked at this place, or that is not marked
abbrev pub uri_by : Title → List (Option ℕ) → List ℕ → Option ℕ → List ℕ
uri_by t word uri None = uri
uri_by t word uri (Some place) = variant_name t.design place (symbol_in word place)

-- a segment and the place at which it is marked
abbrev pub marked_segment : Title → List (Option ℕ) → PlaylistSegment → Option ℕ → PlaylistSegment
marked_segment t word s place = record s { uri = uri_by t word s.uri place }

-- the segments, each with its number
abbrev pub marked_at : Title → List (Option ℕ) → ℕ × PlaylistSegment → PlaylistSegment
marked_at t word s = marked_segment t word s.1 (place_of t.design s.0)

unfoldable pub marked_list : Title → List (Option ℕ) → Playlist
marked_list t word = record {
  version = max 3 t.list.version;
  target = raised_target t.list;
  sequence = t.list.sequence;
  segments = map (marked_at t word) (enumerate_from 0 t.list.segments);
}

-- the marks before this place are below the segment's number, and the others are not
pub record IsNext (marked : List ℕ) (i next : ℕ) : Type 0 where
  pub within : next ≤ length marked
  pub passed : (k : ℕ) → k < next → slice_index marked k < i
  pub coming : (k : ℕ) → next ≤ k → k < length marked → i ≤ slice_index marked k
