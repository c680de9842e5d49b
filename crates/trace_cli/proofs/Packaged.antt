-- What a done `title` and a done `package` leave.
use Rattle.std.proofs.Common.{◌≡◌, ◌∙◌, ℕ, List, Option, Some, Result, Ok, Err, refl, ap, subst}
use Rattle.std.specs.FinMap.{insert}
use Rattle.shelf_terms.specs.Blobs.{Blobs}
use Rattle.outcome_terms.specs.declared.refusal.Refusal.{Refusal}
use Rattle.outcome_terms.specs.Reading.{given}
use Rattle.outcome_terms.specs.Stores.{Writing, Exactly}
use Rattle.outcome_terms.specs.TitleCommand.{title}
use Rattle.outcome_terms.specs.PackageCommand.{package_}
use Rattle.outcome_terms.specs.Outcome.{HasWritten, writes}
use Rattle.records.specs.Stores.{Output}
use Rattle.outcome_terms.specs.Call.{HasEffect}
use Rattle.outcome_terms.proofs.PackagingHeadlines.{title_done, playlist_done}
use Rattle.trace_cli.specs.Packaged.{WritesTitle, WritesPlaylist}

-- the text that was written, where it is exact
after_write : (blobs : Blobs) (out text : List ℕ) (told : Option Blobs) → HasWritten blobs out (Exactly text) told → told ≡ Some (insert blobs out text)
after_write blobs out text told h = h.after ∙ ap (λ t. Some (insert blobs out t)) h.is_writing

pub title_written : (blobs : Blobs) (design source out : List ℕ) (told : Option Blobs) (before after : Output) → HasEffect (writes out (given blobs (title design source out))) blobs told before after
    → WritesTitle blobs design source out told
title_written blobs design source out told before after h = go (given blobs (title design source out)) refl h
  where
    go : (wanted : Result Writing Refusal) → given blobs (title design source out) ≡ wanted → HasEffect (writes out wanted) blobs told before after → WritesTitle blobs design source out told
    go (Ok (Exactly text)) is h = record { text = text; is_title = title_done blobs design source out text is; after = after_write blobs out text told h.0 }
    go (Err e) is h = absurd h

pub playlist_written : (blobs : Blobs) (title register name out : List ℕ) (told : Option Blobs) (before after : Output) → HasEffect (writes out (given blobs (package_ title register name out))) blobs told before after
    → WritesPlaylist blobs title register name out told
playlist_written blobs title register name out told before after h = go (given blobs (package_ title register name out)) refl h
  where
    go : (wanted : Result Writing Refusal) → given blobs (package_ title register name out) ≡ wanted → HasEffect (writes out wanted) blobs told before after → WritesPlaylist blobs title register name out told
    go (Ok (Exactly text)) is h = record { text = text; is_playlist = playlist_done blobs title register name out text is; after = after_write blobs out text told h.0 }
    go (Err e) is h = absurd h
