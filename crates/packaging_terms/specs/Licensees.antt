-- What a licensee gets of a title: the playlist of the title, with the licensee's variant at each marked segment. It depends on
-- the serial and on the numbers of the title and the register alone. This project's own.
use Rattle.std.specs.Prelude.{ℕ, ◌+◌, ◌/◌, Bool, ◌&&◌, ◌==◌, max, List, map, Option, Some, None}
use Rattle.std.specs.List.{fold, position, enumerate_from}
use Rattle.code_terms.specs.Symbols.{symbol_of}
use Rattle.register_terms.specs.Enrolment.{Enrolment, message_of}
use Rattle.playlist_terms.specs.Playlists.{PlaylistSegment, Playlist, playlist_text}
use Rattle.title_terms.specs.Designs.{Design, variant_name}
use Rattle.title_terms.specs.Titles.{Title}

-- the title and the register are of the same code
abbrev pub fits : Title → Enrolment → Bool
fits t e = t.design.bits == e.bits && t.design.dimension == e.dimension

-- the place at which a segment is marked, if it is
abbrev pub place_of : Design → ℕ → Option ℕ
place_of d segment = position (λ marked. marked == segment) d.marked

-- the symbol that the licensee of this serial has at a place
abbrev pub symbol_at : Enrolment → ℕ → ℕ → ℕ
symbol_at e serial place = symbol_of e.bits e.dimension (message_of e serial) place

-- ---- the segments

abbrev pub uri_at : Title → Enrolment → ℕ → List ℕ → Option ℕ → List ℕ
uri_at t e serial uri None = uri
uri_at t e serial uri (Some place) = variant_name t.design place (symbol_at e serial place)

-- the segment of this number as the licensee gets it
abbrev pub licensed_segment : Title → Enrolment → ℕ → ℕ × PlaylistSegment → PlaylistSegment
licensed_segment t e serial s = record s.1 { uri = uri_at t e serial s.1.uri (place_of t.design s.0) }

abbrev pub licensed_segments : Title → Enrolment → ℕ → List PlaylistSegment
licensed_segments t e serial = map (licensed_segment t e serial) (enumerate_from 0 t.list.segments)

-- ---- the list

-- a duration in whole seconds, the half rounded up
abbrev pub whole_seconds : ℕ → ℕ
whole_seconds micros = (micros + 500000) / 1000000

-- no segment is longer in whole seconds
abbrev pub raised_target : Playlist → ℕ
raised_target p = fold max p.target (map (λ s. whole_seconds s.micros) p.segments)

unfoldable pub licensed_list : Title → Enrolment → ℕ → Playlist
licensed_list t e serial = record {
  -- durations with a point want version 3
  version = max 3 t.list.version;
  target = raised_target t.list;
  sequence = t.list.sequence;
  segments = licensed_segments t e serial;
}

-- the text that the licensee of this serial gets
abbrev pub licensed_text : Title → Enrolment → ℕ → List ℕ
licensed_text t e serial = playlist_text (licensed_list t e serial)
