-- Which answer a call gives. Want of memory is free.
use Rattle.std.specs.Prelude.{◌≡◌, ℕ, ◌^◌, ◌<◌, ◌≤◌, Bool, true, false, List, Option, Some, None, Result, Ok, Err}
use Rattle.text_terms.specs.Answers.{AnswersAs}
use Rattle.playlist_terms.specs.Playlists.{PlaylistSegment, Playlist, is_segment_uri}
use Rattle.playlist_terms.specs.Reading.{at_line}
use Rattle.playlist_terms.specs.declared.fault.LineFault.{LineFault}
use Rattle.m3u8_text.specs.declared.errors.SegmentError.{SegmentError}
use Rattle.m3u8_text.specs.declared.errors.SegmentError.TheVariants as segment
use Rattle.m3u8_text.specs.declared.errors.PlaylistError.{PlaylistError}
use Rattle.m3u8_text.specs.declared.errors.PlaylistError.TheVariants as playlist

-- the segment of these parts, or the first rule that they break: on the URI, and then on the duration
abbrev pub MakesSegment : Result PlaylistSegment SegmentError → ℕ → List ℕ → Bool → Type 0
MakesSegment (Ok s) micros uri cut = (is_segment_uri uri ≡ true) × (micros < 10 ^ 16) × (s ≡ record { micros = micros; uri = uri; cut = cut })
MakesSegment (Err segment.BadUri) micros uri cut = is_segment_uri uri ≡ false
MakesSegment (Err segment.LongDuration) micros uri cut = (is_segment_uri uri ≡ true) × (10 ^ 16 ≤ micros)
MakesSegment (Err segment.Memory) micros uri cut = Unit {0}

abbrev pub fault_in : PlaylistError → Option LineFault
fault_in (playlist.Line number fault) = Some (at_line number fault)
fault_in playlist.Memory = None

-- the playlist or the fault that is wanted
abbrev pub ReadsAs : Result Playlist PlaylistError → Result Playlist LineFault → Type 0
ReadsAs result wanted = AnswersAs fault_in result wanted

abbrev pub error_of : LineFault → PlaylistError
error_of found = playlist.Line found.line found.fault
