-- Which fault a line has, by what stands on it and in front of it. The lines in front of a line stand here with the last one
-- first, so that a definition looks back from the line.
use Rattle.std.specs.Prelude.{ℕ, Bool, true, false, not, nat_le, if◌then◌else◌, List, [], ◌∷◌, ◌++◌, length, Option, Some, None}
use Rattle.std.specs.List.{list_any}
use Rattle.std.specs.Option.{is_some, is_none, unwrap_or}
use Rattle.text_terms.specs.Names.{is_name}
use Rattle.playlist_terms.specs.MediaLines.{MediaLine, NotText, Silent, Uri, Start, StartTag, Version, Target, Sequence, Duration, Kind, End, Cut, Key, Outside}
use Rattle.playlist_terms.specs.Playlists.{PlaylistSegment}
use Rattle.playlist_terms.specs.declared.fault.PlaylistFault.{PlaylistFault}
use Rattle.playlist_terms.specs.declared.fault.PlaylistFault.TheVariants.{NotM3u, Utf8, Number, Repeat, TwoDurations, NoDuration, BadUri, Encrypted, Unsupported, TooMany}

-- ---- what one line is

abbrev pub is_uri : MediaLine → Bool
is_uri (Uri uri) = true
is_uri other = false

abbrev pub is_version : MediaLine → Bool
is_version (Version value) = true
is_version other = false

abbrev pub is_target : MediaLine → Bool
is_target (Target value) = true
is_target other = false

abbrev pub is_sequence : MediaLine → Bool
is_sequence (Sequence value) = true
is_sequence other = false

abbrev pub is_kind : MediaLine → Bool
is_kind (Kind vod) = true
is_kind other = false

abbrev pub is_end : MediaLine → Bool
is_end End = true
is_end other = false

abbrev pub is_cut : MediaLine → Bool
is_cut Cut = true
is_cut other = false

abbrev pub version_said : MediaLine → Option ℕ
version_said (Version value) = value
version_said other = None

abbrev pub target_said : MediaLine → Option ℕ
target_said (Target value) = value
target_said other = None

abbrev pub sequence_said : MediaLine → Option ℕ
sequence_said (Sequence value) = value
sequence_said other = None

abbrev pub duration_said : MediaLine → Option ℕ
duration_said (Duration value) = value
duration_said other = None

-- ---- what the lines in front say

abbrev pub first_of_two : {A : Type 0} → Option A → Option A → Option A
first_of_two None second = second
first_of_two (Some x) second = Some x

-- what the last line says that says anything of this
abbrev pub last_said : {A : Type 0} → (MediaLine → Option A) → List MediaLine → Option A
last_said said [] = None
last_said said (line ∷ before) = first_of_two (said line) (last_said said before)

-- the lines after the last URI line: those of the segment whose URI is still to come
abbrev pub since_uri : List MediaLine → List MediaLine
since_uri [] = []
since_uri (line ∷ before) = if is_uri line then [] else line ∷ since_uri before

-- the duration whose URI is still to come
abbrev pub pending : List MediaLine → Option ℕ
pending before = last_said duration_said (since_uri before)

-- whether a discontinuity stands in front of the segment whose URI is still to come
abbrev pub is_after_cut : List MediaLine → Bool
is_after_cut before = list_any is_cut (since_uri before)

-- the segment of a URI line
abbrev pub segment_of : List MediaLine → List ℕ → PlaylistSegment
segment_of before uri = record { micros = unwrap_or (pending before) 0; uri = uri; cut = is_after_cut before }

-- one segment for each URI line, in order
abbrev pub segments : List MediaLine → List PlaylistSegment
segments [] = []
segments (Uri uri ∷ before) = segments before ++ segment_of before uri ∷ []
segments (other ∷ before) = segments before

-- ---- the fault of a line

abbrev pub unless : Bool → PlaylistFault → Option PlaylistFault
unless fine fault = if fine then None else Some fault

-- of a tag that may stand once
abbrev pub once : Bool → Option PlaylistFault → Option PlaylistFault
once stood fault = if stood then Some Repeat else fault

abbrev pub uri_fault : List MediaLine → List ℕ → Option PlaylistFault
uri_fault before uri =
    if is_none (pending before) then Some NoDuration
    else (if not (is_name uri) then Some BadUri
    else unless (not (nat_le 100000 (length (segments before)))) TooMany)

abbrev pub later_fault : List MediaLine → MediaLine → Option PlaylistFault
later_fault before NotText = Some Utf8
later_fault before Silent = None
later_fault before (Uri uri) = uri_fault before uri
later_fault before Start = Some Repeat
later_fault before StartTag = Some Repeat
later_fault before (Version value) = once (list_any is_version before) (unless (is_some value) Number)
later_fault before (Target value) = once (list_any is_target before) (unless (is_some value) Number)
later_fault before (Sequence value) = once (list_any is_sequence before) (unless (is_some value) Number)
later_fault before (Duration value) = if is_some (pending before) then Some TwoDurations else unless (is_some value) Number
later_fault before (Kind vod) = once (list_any is_kind before) (unless vod Unsupported)
later_fault before End = once (list_any is_end before) None
later_fault before Cut = None
later_fault before (Key absent) = unless absent Encrypted
later_fault before Outside = Some Unsupported

abbrev pub start_fault : MediaLine → Option PlaylistFault
start_fault Start = None
start_fault NotText = Some Utf8
start_fault other = Some NotM3u

-- the first line has nothing in front of it
abbrev pub fault_after : List MediaLine → MediaLine → Option PlaylistFault
fault_after [] line = start_fault line
fault_after (last ∷ before) line = later_fault (last ∷ before) line
