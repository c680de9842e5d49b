-- What a done `trace` says, from what its reading gave.
use Rattle.std.proofs.Common.{◌≡◌, ◌∙◌, ℕ, List, [], ◌∷◌, Option, Ok, All, sym, ap}
use Rattle.std.specs.Option.{unwrap_or}
use Rattle.std.proofs.lemmas.List.Elements.{All-nil, All-cons}
use Rattle.sha2.specs.Sha256.{sha256}
use Rattle.shelf_terms.specs.Blobs.{Blobs, blob_at}
use Rattle.playlist_terms.specs.Playlists.{Playlist}
use Rattle.title_terms.specs.Titles.{Title}
use Rattle.title_terms.proofs.Texts.{read_was_written}
use Rattle.packaging_terms.specs.Licensees.{fits}
use Rattle.copy_terms.specs.Copies.{word_of_copy, digests_of}
use Rattle.outcome_terms.specs.declared.fault.Fault.TheVariants.{BadBound}
use Rattle.outcome_terms.specs.Reading.{blob, each, given, Give}
use Rattle.outcome_terms.specs.Registers.{register_under}
use Rattle.outcome_terms.specs.TitleCommand.{playlist_under, digest_under}
use Rattle.outcome_terms.specs.PackageCommand.{title_under, mismatch}
use Rattle.outcome_terms.specs.AccuseCommand.{report}
use Rattle.outcome_terms.specs.TraceCommand.{is_served, segment_names, word_of_copy_under, word_shown, trace}
use Rattle.outcome_terms.specs.PackagingReports.{HoldsPlaylist}
use Rattle.outcome_terms.specs.TraceReports.{IsHeld, word_held, IsTraceReport}
use Rattle.outcome_terms.proofs.Givens.{took, met, was_given, was_held}
use Rattle.outcome_terms.proofs.Headlines.{register_held, reported}
use Rattle.outcome_terms.proofs.PackagingHeadlines.{playlist_held, title_held}

-- ---- the digests of the segments

record Digested (blobs : Blobs) (name digest : List ℕ) : Type 0 where
  held : IsHeld blobs name
  is : sha256 (unwrap_or (blob_at blobs name) []) ≡ digest

digested : (blobs : Blobs) (name digest : List ℕ) → given blobs (digest_under name) ≡ Ok digest → Digested blobs name digest
unfolding digest_under
digested blobs name digest h =
    let t = took blobs (blob name) (λ bytes. Give (sha256 bytes)) digest h in
    let there = was_held blobs name t.value t.first in
    record {
      held = record { bytes = t.value; held = there };
      is = ap (λ (held : Option (List ℕ)). sha256 (unwrap_or held [])) there ∙ was_given blobs (sha256 t.value) digest t.then;
    }

record AllDigested (blobs : Blobs) (names digests : List (List ℕ)) : Type 0 where
  held : All (IsHeld blobs) names
  are : digests_of blobs names ≡ digests

all_digested : (blobs : Blobs) (names digests : List (List ℕ)) → given blobs (each digest_under names) ≡ Ok digests → AllDigested blobs names digests
unfolding each
all_digested blobs [] digests h = record { held = All-nil (IsHeld blobs); are = was_given blobs [] digests h }
all_digested blobs (name ∷ names) digests h =
    let first = took blobs (digest_under name) _ digests h in
    let later = took blobs (each digest_under names) _ digests first.then in
    let d = digested blobs name first.value first.first in
    let ds = all_digested blobs names later.value later.first in
    let whole : first.value ∷ later.value ≡ digests = was_given blobs (first.value ∷ later.value) digests later.then in
    record {
      held = All-cons (IsHeld blobs) name names d.held ds.held;
      are = ap (λ (x : List ℕ). x ∷ digests_of blobs names) d.is ∙ (ap (λ (xs : List (List ℕ)). first.value ∷ xs) ds.are ∙ whole);
    }

-- ---- the word of the copy

pub record Shown (blobs : Blobs) (t : Title) (copy : List ℕ) (word : List (Option ℕ)) : Type 0 where
  pub p : Playlist
  pub holds_copy : HoldsPlaylist blobs copy p
  pub held : All (IsHeld blobs) (segment_names p)
  pub is : word_held blobs t p ≡ word

pub was_shown : (blobs : Blobs) (t : Title) (copy : List ℕ) (word : List (Option ℕ)) → given blobs (word_shown t copy) ≡ Ok word → Shown blobs t copy word
unfolding word_shown word_of_copy_under
was_shown blobs t copy word h =
    let p = took blobs (playlist_under copy) _ word h in
    let ds = took blobs (each digest_under (segment_names p.value)) _ word p.then in
    let all = all_digested blobs (segment_names p.value) ds.value ds.first in
    record {
      p = p.value;
      holds_copy = playlist_held blobs copy p.value p.first;
      held = all.held;
      is = ap (word_of_copy t) all.are ∙ was_given blobs (word_of_copy t ds.value) word ds.then;
    }

-- ---- the report

pub trace_done : (blobs : Blobs) (title register copy : List ℕ) (c : ℕ) (text : List ℕ) → given blobs (trace title register copy c) ≡ Ok text → IsTraceReport blobs title register copy c text
unfolding trace
trace_done blobs title register copy c text h =
    let t = took blobs (title_under title) _ text h in
    let e = took blobs (register_under register) _ text t.then in
    let same = met blobs (fits t.value e.value) (mismatch t.value e.value) _ text e.then in
    let served = met blobs (is_served t.value c) (BadBound c) _ text same.then in
    let word = took blobs (word_shown t.value copy) _ text served.then in
    let shown = was_shown blobs t.value copy word.value word.first in
    let last = reported blobs e.value (word_held blobs t.value shown.p) c text (ap (λ (w : List (Option ℕ)). given blobs (report e.value w c)) shown.is ∙ word.then) in
    let title_blob = title_held blobs title t.value t.first in
    record {
      t = t.value;
      e = e.value;
      p = shown.p;
      holds_title = title_blob;
      valid = (read_was_written title_blob.bytes t.value title_blob.read).valid;
      holds_register = register_held blobs register e.value e.first;
      same_code = same.so;
      bound_served = served.so;
      holds_copy = shown.holds_copy;
      held = shown.held;
      enough = last.enough;
      report = sym last.is;
    }
