-- What a report on a copy says of coalitions, from the blobs that were read.
-- Source: Silverberg, Staddon and Walker (2003), traceability of codes.
use Rattle.std.specs.Prelude.{◌≡◌, ℕ, List, ◌++◌, Option, Some, None, All, ⊤}
use Rattle.shelf_terms.specs.Blobs.{Blobs}
use Rattle.register_terms.specs.Enrolment.{Enrolment}
use Rattle.desk_terms.specs.Roll.{roll_of}
use Rattle.playlist_terms.specs.Playlists.{Playlist}
use Rattle.title_terms.specs.Titles.{Title}
use Rattle.copy_terms.specs.Kept.{IsKept, IsFrom}
use Rattle.coalition_terms.specs.Coalition.{IsCoalition, Explains, IsTraced}
use Rattle.outcome_terms.specs.Reports.{HoldsRegister}
use Rattle.outcome_terms.specs.PackagingReports.{HoldsTitle, HoldsPlaylist}
use Rattle.outcome_terms.specs.TraceCommand.{segment_names}
use Rattle.outcome_terms.specs.TraceReports.{IsTraceReport, word_held}

-- ---- the report that was put out

pub record PutsTraceReport (blobs : Blobs) (title register copy : List ℕ) (c : ℕ) (before after : List ℕ) : Type 0 where
  pub text : List ℕ
  pub is_report : IsTraceReport blobs title register copy c text
  pub put : after ≡ before ++ text

-- the same where the blobs and the output are told
abbrev pub TellsTraceReport : Option Blobs → (title register copy : List ℕ) → ℕ → Option (List ℕ) → Option (List ℕ) → Type 0
TellsTraceReport (Some blobs) title register copy c (Some before) (Some after) = PutsTraceReport blobs title register copy c before after
TellsTraceReport (Some blobs) title register copy c (Some before) None = ⊥
TellsTraceReport (Some blobs) title register copy c None after = ⊤
TellsTraceReport None title register copy c before after = ⊤

-- ---- coalitions

-- Where the blobs are told: if a coalition of at most c licensees of the register explains the word of the copy, then everyone who
-- is found is a member, and somebody is found.
abbrev pub TracesExplained : Option Blobs → (title register copy : List ℕ) → ℕ → Type 0
TracesExplained None title register copy c = ⊤
TracesExplained (Some blobs) title register copy c =
    (t : Title) (e : Enrolment) (p : Playlist) (members : List ℕ) → HoldsTitle blobs title t → HoldsRegister blobs register e
    → HoldsPlaylist blobs copy p → IsCoalition (roll_of e) c members
    → Explains (roll_of e) members (word_held blobs t p) → IsTraced (roll_of e) (word_held blobs t p) c members

-- Where the blobs are told and keep the title: if each segment of the copy has a name that stands in the playlist that some member
-- of a coalition of at most c licensees gets, and is held, then everyone who is found is a member, and somebody is found.
abbrev pub TracesPackaged : Option Blobs → (title register copy : List ℕ) → ℕ → Type 0
TracesPackaged None title register copy c = ⊤
TracesPackaged (Some blobs) title register copy c =
    (t : Title) (e : Enrolment) (p : Playlist) (members : List ℕ) → HoldsTitle blobs title t → HoldsRegister blobs register e
    → HoldsPlaylist blobs copy p → IsCoalition (roll_of e) c members → IsKept blobs t
    → All (IsFrom blobs t e members) (segment_names p) → IsTraced (roll_of e) (word_held blobs t p) c members
