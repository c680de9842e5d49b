-- What a done `trace` says, from the bytes read to the bytes put out. This project's own.
use Rattle.std.specs.Prelude.{◌≡◌, ℕ, ◌<◌, List, true, Option, Some, All}
use Rattle.shelf_terms.specs.Blobs.{Blobs, blob_at}
use Rattle.code_terms.specs.Words.{readable}
use Rattle.register_terms.specs.Enrolment.{Enrolment}
use Rattle.decoder_terms.specs.Decoding.{not_enough}
use Rattle.desk_terms.specs.Findings.{findings}
use Rattle.desk_terms.specs.Roll.{roll_of}
use Rattle.desk_terms.specs.Report.{report_text}
use Rattle.playlist_terms.specs.Playlists.{Playlist}
use Rattle.title_terms.specs.Titles.{Title, IsTitle}
use Rattle.packaging_terms.specs.Licensees.{fits}
use Rattle.copy_terms.specs.Copies.{word_of_copy, digests_of}
use Rattle.outcome_terms.specs.Reports.{HoldsRegister}
use Rattle.outcome_terms.specs.PackagingReports.{HoldsTitle, HoldsPlaylist}
use Rattle.outcome_terms.specs.TraceCommand.{is_served, segment_names}

-- the blob of this name is held
pub record IsHeld (blobs : Blobs) (name : List ℕ) : Type 0 where
  pub bytes : List ℕ
  pub held : blob_at blobs name ≡ Some bytes

-- the word of the segments that a list names, by the blobs that are held
abbrev pub word_held : Blobs → Title → Playlist → List (Option ℕ)
word_held blobs t copy = word_of_copy t (digests_of blobs (segment_names copy))

-- The text is the report of exactly the enrolled licensees who agree with at least r/c of the r readable places of the copy, for
-- the title, the register, the copy and its segments that the blobs hold.
pub record IsTraceReport (blobs : Blobs) (title register copy : List ℕ) (c : ℕ) (text : List ℕ) : Type 0 where
  pub t : Title
  pub e : Enrolment
  pub p : Playlist
  pub holds_title : HoldsTitle blobs title t
  pub valid : IsTitle t
  pub holds_register : HoldsRegister blobs register e
  pub same_code : fits t e ≡ true
  pub bound_served : is_served t c ≡ true
  pub holds_copy : HoldsPlaylist blobs copy p
  pub held : All (IsHeld blobs) (segment_names p)
  pub enough : not_enough e.dimension c < readable (word_held blobs t p)
  pub report : text ≡ report_text (findings (roll_of e) (word_held blobs t p) c)
