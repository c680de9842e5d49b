-- What the lines so far say together.
use Rattle.std.specs.Prelude.{◌≡◌, Bool, List, ◌∷◌, Option, Some, None, Result, Ok, Err}
use Rattle.std.specs.List.{list_any}
use Rattle.std.specs.Option.{option_map}
use Rattle.playlist_terms.specs.MediaLines.{MediaLine}
use Rattle.playlist_terms.specs.Playlists.{Playlist}
use Rattle.playlist_terms.specs.Faults.{is_version, is_target, is_sequence, is_kind, is_end, pending, is_after_cut, later_fault}
use Rattle.playlist_terms.specs.Reading.{listed, last_duration, end_fault, at_line}
use Rattle.playlist_terms.specs.declared.fault.PlaylistFault.{PlaylistFault}
use Rattle.m3u8_text.specs.declared.waiting.Waiting.{Waiting}
use Rattle.m3u8_text.specs.declared.errors.LineError.{LineError}
use Rattle.m3u8_text.specs.declared.errors.LineError.TheVariants as stops
use Rattle.m3u8_text.specs.declared.errors.PlaylistError.{PlaylistError}
use Rattle.m3u8_text.specs.declared.errors.PlaylistError.TheVariants as playlist

pub record Progress : Type 0 where
  pub list : Playlist
  pub has_version : Bool
  pub has_target : Bool
  pub has_sequence : Bool
  pub has_kind : Bool
  pub has_end : Bool
  pub waiting : Option Waiting
  pub cut : Bool

-- the duration whose URI is still to come, with the number of its line
abbrev pub waiting_in : List MediaLine → Option Waiting
waiting_in before = option_map (λ micros. record { micros = micros; line = last_duration before }) (pending before)

abbrev pub progress_of : List MediaLine → Progress
progress_of before = record {
  list = listed before;
  has_version = list_any is_version before;
  has_target = list_any is_target before;
  has_sequence = list_any is_sequence before;
  has_kind = list_any is_kind before;
  has_end = list_any is_end before;
  waiting = waiting_in before;
  cut = is_after_cut before;
}

-- a line is taken behind these, or has this fault there
abbrev pub Takes : Result (Unit {0}) PlaylistFault → List MediaLine → Progress → MediaLine → Type 0
Takes (Ok _) before new line = (later_fault before line ≡ None) × (new ≡ progress_of (line ∷ before))
Takes (Err fault) before new line = later_fault before line ≡ Some fault

-- the same, unless memory runs out
abbrev pub TakesOrStops : Result (Unit {0}) LineError → List MediaLine → Progress → MediaLine → Type 0
TakesOrStops (Ok _) before new line = (later_fault before line ≡ None) × (new ≡ progress_of (line ∷ before))
TakesOrStops (Err (stops.Faulty fault)) before new line = later_fault before line ≡ Some fault
TakesOrStops (Err stops.Memory) before new line = Unit {0}

-- what comes behind the last line
abbrev pub Ends : Result Playlist PlaylistError → List MediaLine → Type 0
Ends (Ok list) before = (end_fault before ≡ None) × (list ≡ listed before)
Ends (Err (playlist.Line number fault)) before = end_fault before ≡ Some (at_line number fault)
Ends (Err playlist.Memory) before = Unit {0}
