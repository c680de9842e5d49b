-- The media playlist that a text spells, or its first fault.
use Rattle.std.specs.Prelude.{◌≡◌, ℕ, suc, ◌<◌, ◌≤◌, ◌^◌, true, not, if◌then◌else◌, List, [], ◌∷◌, map, reverse, length, Option, Some, None, Result, Ok, Err}
use Rattle.std.specs.List.{list_any}
use Rattle.std.specs.Option.{is_some, option_map, unwrap_or, ForSome}
use Rattle.playlist_terms.specs.Lines.{lines_of, stands_as_uri}
use Rattle.playlist_terms.specs.MediaLines.{MediaLine, Uri, Version, Duration, media_line}
use Rattle.playlist_terms.specs.Playlists.{Playlist}
use Rattle.playlist_terms.specs.Faults.{is_target, is_end, version_said, target_said, sequence_said, duration_said, first_of_two, last_said, pending, segments, fault_after}
use Rattle.playlist_terms.specs.declared.fault.PlaylistFault.{PlaylistFault}
use Rattle.playlist_terms.specs.declared.fault.PlaylistFault.TheVariants.{NotM3u, NoUri, NoTarget, NoEnd}
use Rattle.playlist_terms.specs.declared.fault.LineFault.{LineFault}

abbrev pub at_line : ℕ → PlaylistFault → LineFault
at_line number fault = record { line = number; fault = fault }

-- the first line with a fault
abbrev pub first_fault : List MediaLine → Option LineFault
first_fault [] = None
first_fault (line ∷ before) = first_of_two (first_fault before) (option_map (at_line (suc (length before))) (fault_after before line))

-- the number of the last line that has a duration
abbrev pub last_duration : List MediaLine → ℕ
last_duration [] = 0
last_duration (line ∷ before) = if is_some (duration_said line) then suc (length before) else last_duration before

-- what is missing after the last line; a text without lines lacks its first one
abbrev pub end_fault : List MediaLine → Option LineFault
end_fault [] = Some (at_line 1 NotM3u)
end_fault (last ∷ before) =
    if is_some (pending (last ∷ before)) then Some (at_line (last_duration (last ∷ before)) NoUri)
    else (if not (list_any is_target (last ∷ before)) then Some (at_line 0 NoTarget)
    else (if not (list_any is_end (last ∷ before)) then Some (at_line 0 NoEnd)
    else None))

-- where no line gives them, the version is 1 and the number of the first segment is 0
abbrev pub listed : List MediaLine → Playlist
listed lines = record {
  version = unwrap_or (last_said version_said lines) 1;
  target = unwrap_or (last_said target_said lines) 0;
  sequence = unwrap_or (last_said sequence_said lines) 0;
  segments = segments lines;
}

abbrev pub unless_faulty : {A : Type 0} → Option LineFault → A → Result A LineFault
unless_faulty None x = Ok x
unless_faulty (Some fault) x = Err fault

abbrev pub playlist_among : List MediaLine → Result Playlist LineFault
playlist_among lines = unless_faulty (first_of_two (first_fault lines) (end_fault lines)) (listed lines)

-- what the lines of a text say, the last one first
abbrev pub media_lines_of : List ℕ → List MediaLine
media_lines_of bytes = reverse (map media_line (lines_of bytes))

abbrev pub playlist_of : List ℕ → Result Playlist LineFault
playlist_of bytes = playlist_among (media_lines_of bytes)

-- what each line of a text keeps
abbrev pub IsSaid : MediaLine → Type 0
IsSaid (Uri uri) = stands_as_uri uri ≡ true
IsSaid (Version value) = ForSome value (λ n. (1 ≤ n) × (n ≤ 65535))
IsSaid (Duration value) = ForSome value (λ n. n < 10 ^ 16)
IsSaid other = Unit {0}
