-- What a done `check` says, from the bytes read to the bytes put out. This project's own.
use Rattle.std.specs.Prelude.{◌≡◌, ℕ, List, true, Some, All}
use Rattle.shelf_terms.specs.Blobs.{Blobs, blob_at}
use Rattle.register_terms.specs.Enrolment.{Enrolment}
use Rattle.desk_terms.specs.declared.findings.Findings.{Findings}
use Rattle.desk_terms.specs.Roll.{roll_of}
use Rattle.playlist_terms.specs.Playlists.{Playlist}
use Rattle.title_terms.specs.Titles.{Title}
use Rattle.packaging_terms.specs.Licensees.{fits}
use Rattle.report_terms.specs.Reports.{report_of}
use Rattle.report_terms.specs.Verdicts.{verdict}
use Rattle.report_terms.specs.declared.verdict.Verdict.TheVariants.{Right}
use Rattle.outcome_terms.specs.Reports.{HoldsRegister}
use Rattle.outcome_terms.specs.PackagingReports.{HoldsTitle, HoldsPlaylist}
use Rattle.outcome_terms.specs.TraceCommand.{is_served, segment_names}
use Rattle.outcome_terms.specs.TraceReports.{IsHeld, word_held}
use Rattle.outcome_terms.specs.CheckCommand.{right_line}

-- the blob of this name is a report of these findings
pub record HoldsReport (blobs : Blobs) (name : List ℕ) (f : Findings) : Type 0 where
  pub bytes : List ℕ
  pub held : blob_at blobs name ≡ Some bytes
  pub read : report_of bytes ≡ Some f

-- The text says that the report is right: a plain count finds nothing wrong with it, for the title, the register, the copy and its
-- segments that the blobs hold.
pub record IsCheckedRight (blobs : Blobs) (title register copy report text : List ℕ) : Type 0 where
  pub t : Title
  pub e : Enrolment
  pub f : Findings
  pub p : Playlist
  pub holds_title : HoldsTitle blobs title t
  pub holds_register : HoldsRegister blobs register e
  pub same_code : fits t e ≡ true
  pub holds_report : HoldsReport blobs report f
  pub bound_served : is_served t f.bound ≡ true
  pub holds_copy : HoldsPlaylist blobs copy p
  pub held : All (IsHeld blobs) (segment_names p)
  pub right : verdict (roll_of e) (word_held blobs t p) f ≡ Right
  pub is_text : text ≡ right_line
