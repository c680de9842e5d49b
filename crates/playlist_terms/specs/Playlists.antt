-- What a media playlist is, and the text that is written for it. The order of the lines is this project's own.
use Rattle.std.specs.Prelude.{◌≡◌, ℕ, ◌^◌, ◌<◌, ◌≤◌, Bool, true, ◌&&◌, if◌then◌else◌, List, [], ◌∷◌, ◌++◌, length, codes, All}
use Rattle.std.specs.Fmt.{decimal}
use Rattle.std.specs.List.{flat_map}
use Rattle.std.specs.Str.{IsUtf8}
use Rattle.text_terms.specs.Names.{is_name}
use Rattle.playlist_terms.specs.Lines.{fed, stands_as_uri}
use Rattle.playlist_terms.specs.Durations.{duration_text}

-- a segment: its duration in microseconds, the name of its blob, and whether a discontinuity stands in front of it
pub record PlaylistSegment : Type 0 where
  pub micros : ℕ
  pub uri : List ℕ
  pub cut : Bool

-- the version of the protocol, the target duration in seconds, the number of the first segment, and the segments
pub record Playlist : Type 0 where
  pub version : ℕ
  pub target : ℕ
  pub sequence : ℕ
  pub segments : List PlaylistSegment

-- ---- which are allowed

abbrev pub is_segment_uri : List ℕ → Bool
is_segment_uri uri = is_name uri && stands_as_uri uri

pub record IsSegment (s : PlaylistSegment) : Type 0 where
  pub uri : is_segment_uri s.uri ≡ true
  pub utf8 : IsUtf8 s.uri
  pub micros : s.micros < 10 ^ 16

pub record IsPlaylist (p : Playlist) : Type 0 where
  pub version_low : 1 ≤ p.version
  pub version_high : p.version ≤ 65535
  pub target : p.target < 2 ^ 64
  pub sequence : p.sequence < 2 ^ 64
  pub segments : All IsSegment p.segments
  pub room : length p.segments ≤ 100000

-- ---- the text

abbrev pub duration_line : ℕ → List ℕ
duration_line micros = codes "#EXTINF:" ++ (duration_text micros ++ codes ",")

abbrev pub cut_lines : Bool → List (List ℕ)
cut_lines cut = if cut then codes "#EXT-X-DISCONTINUITY" ∷ [] else []

abbrev pub segment_lines : PlaylistSegment → List (List ℕ)
segment_lines s = cut_lines s.cut ++ (duration_line s.micros ∷ s.uri ∷ [])

abbrev pub head_lines : Playlist → List (List ℕ)
head_lines p =
    codes "#EXTM3U"
    ∷ (codes "#EXT-X-VERSION:" ++ decimal p.version)
    ∷ (codes "#EXT-X-TARGETDURATION:" ++ decimal p.target)
    ∷ (codes "#EXT-X-MEDIA-SEQUENCE:" ++ decimal p.sequence)
    ∷ codes "#EXT-X-PLAYLIST-TYPE:VOD"
    ∷ []

abbrev pub playlist_lines : Playlist → List (List ℕ)
playlist_lines p = head_lines p ++ (flat_map segment_lines p.segments ++ codes "#EXT-X-ENDLIST" ∷ [])

abbrev pub playlist_text : Playlist → List ℕ
playlist_text p = flat_map fed (playlist_lines p)
