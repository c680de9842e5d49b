-- What a line says in a media playlist, its value already read: RFC 8216, sections 4.3.1 to 4.3.4. Which tags are left out
-- is this project's profile.
use Rattle.std.specs.Prelude.{ℕ, Bool, ◌||◌, if◌then◌else◌, List, [], ◌∷◌, codes, Option}
use Rattle.std.specs.List.{list_any}
use Rattle.std.specs.Str.{bytes_eq}
use Rattle.playlist_terms.specs.Lines.{Line, begins_with, line_of}
use Rattle.playlist_terms.specs.Lines as lines
use Rattle.playlist_terms.specs.TagValues.{whole_number_of, as_version}
use Rattle.playlist_terms.specs.Durations.{duration_of}

-- A number is `None` where the value has not its form.
pub data MediaLine : Type 0 where
  NotText : MediaLine
  -- it says nothing that is kept
  Silent : MediaLine
  Uri : List ℕ → MediaLine
  -- exactly `#EXTM3U`
  Start : MediaLine
  -- a tag of that name with a value
  StartTag : MediaLine
  Version : Option ℕ → MediaLine
  Target : Option ℕ → MediaLine
  Sequence : Option ℕ → MediaLine
  Duration : Option ℕ → MediaLine
  -- the type of the playlist: whether it is `VOD`
  Kind : Bool → MediaLine
  End : MediaLine
  -- a discontinuity before the next segment
  Cut : MediaLine
  -- the key of the segments: whether there is none
  Key : Bool → MediaLine
  -- a tag that the profile leaves out
  Outside : MediaLine

-- the tags that make a segment something else than a whole blob, and those of other kinds of playlist
abbrev pub outside_names : List (List ℕ)
outside_names =
    codes "#EXT-X-BYTERANGE"
    ∷ codes "#EXT-X-MAP"
    ∷ codes "#EXT-X-I-FRAMES-ONLY"
    ∷ codes "#EXT-X-STREAM-INF"
    ∷ codes "#EXT-X-I-FRAME-STREAM-INF"
    ∷ codes "#EXT-X-MEDIA"
    ∷ []

abbrev pub is_outside : List ℕ → Bool
is_outside name = list_any (bytes_eq name) outside_names

-- the value of a key that says: no encryption
abbrev pub is_no_key : List ℕ → Bool
is_no_key value = bytes_eq value (codes "METHOD=NONE") || begins_with (codes "METHOD=NONE,") value

unfoldable pub media_tag : List ℕ → List ℕ → MediaLine
media_tag name value =
    if bytes_eq name (codes "#EXTINF") then Duration (duration_of value)
    else (if bytes_eq name (codes "#EXT-X-DISCONTINUITY") then Cut
    else (if bytes_eq name (codes "#EXT-X-VERSION") then Version (as_version (whole_number_of value))
    else (if bytes_eq name (codes "#EXT-X-TARGETDURATION") then Target (whole_number_of value)
    else (if bytes_eq name (codes "#EXT-X-MEDIA-SEQUENCE") then Sequence (whole_number_of value)
    else (if bytes_eq name (codes "#EXT-X-PLAYLIST-TYPE") then Kind (bytes_eq value (codes "VOD"))
    else (if bytes_eq name (codes "#EXT-X-ENDLIST") then End
    else (if bytes_eq name (codes "#EXT-X-KEY") then Key (is_no_key value)
    else (if bytes_eq name (codes "#EXTM3U") then StartTag
    else (if is_outside name then Outside
    else Silent)))))))))

abbrev pub said_by : Line → MediaLine
said_by lines.NotText = NotText
said_by lines.Silent = Silent
said_by (lines.Tag name value) = media_tag name value
said_by (lines.Uri uri) = Uri uri

unfoldable pub media_line : List ℕ → MediaLine
media_line text = if bytes_eq text (codes "#EXTM3U") then Start else said_by (line_of text)
