-- What a done `title` and a done `package` say, from what their readings gave.
use Rattle.std.proofs.Common.{◌≡◌, ◌∙◌, ℕ, List, true, false, Bool, ◌||◌, Result, Ok, Err, refl, sym, ap}
use Rattle.std.specs.Prelude.{not}
use Rattle.std.specs.Str.{bytes_eq}
use Rattle.shelf_terms.specs.declared.limit.TheConstants.{BLOB_LIMIT}
use Rattle.shelf_terms.specs.Blobs.{Blobs}
use Rattle.register_terms.specs.Enrolment.{names_of, serial_of}
use Rattle.register_terms.specs.Rules.{is_active}
use Rattle.playlist_terms.specs.Playlists.{Playlist}
use Rattle.playlist_terms.specs.Reading.{playlist_of}
use Rattle.title_terms.specs.Designs.{Design}
use Rattle.title_terms.specs.DesignText.{design_of}
use Rattle.title_terms.specs.Titles.{Title}
use Rattle.title_terms.specs.TitleText.{title_of, title_text}
use Rattle.playlist_terms.proofs.Allowed.{read_allowed}
use Rattle.playlist_terms.proofs.Written.{written_is_read as playlist_again}
use Rattle.title_terms.proofs.DesignValues.{design_is_valid}
use Rattle.title_terms.proofs.Texts.{written_is_read, read_was_written}
use Rattle.packaging_terms.proofs.Made.{made_valid}
use Rattle.packaging_terms.proofs.Lists.{licensable, licensed_valid}
use Rattle.packaging_terms.specs.Licensees.{fits, licensed_list, licensed_text}
use Rattle.packaging_terms.specs.Making.{Hindrance, made}
use Rattle.outcome_terms.specs.declared.fault.Fault.TheVariants.{BadDesign, BadPlaylist, BadTitle, Mismatch, SameName, Unknown, Withdrawn}
use Rattle.outcome_terms.specs.Reading.{found, blob, understood, given}
use Rattle.outcome_terms.specs.Stores.{Exactly}
use Rattle.outcome_terms.specs.Registers.{register_under}
use Rattle.outcome_terms.specs.TitleCommand.{design_under, playlist_under, title_made, told_title, title}
use Rattle.outcome_terms.specs.PackageCommand.{title_under, packaged, package_}
use Rattle.outcome_terms.specs.PackagingReports.{HoldsDesign, HoldsPlaylist, HoldsTitle, IsMadeTitle, IsMadePlaylist}
use Rattle.outcome_terms.proofs.Givens.{took, met, was_given, was_understood, was_held}
use Rattle.outcome_terms.proofs.Headlines.{register_held, was_found, differs}
use Rattle.outcome_terms.proofs.TitleMaking.{title_given}

design_held : (blobs : Blobs) (name : List ℕ) (d : Design) → given blobs (design_under name) ≡ Ok d → HoldsDesign blobs name d
unfolding design_under
design_held blobs name d h =
    let t = took blobs (blob name) (λ bytes. understood BadDesign (design_of bytes)) d h in
    record { bytes = t.value; held = was_held blobs name t.value t.first; read = was_understood blobs BadDesign (design_of t.value) d t.then }

pub playlist_held : (blobs : Blobs) (name : List ℕ) (p : Playlist) → given blobs (playlist_under name) ≡ Ok p → HoldsPlaylist blobs name p
unfolding playlist_under
playlist_held blobs name p h =
    let t = took blobs (blob name) (λ bytes. understood BadPlaylist (playlist_of bytes)) p h in
    record { bytes = t.value; held = was_held blobs name t.value t.first; read = was_understood blobs BadPlaylist (playlist_of t.value) p t.then }

pub title_held : (blobs : Blobs) (name : List ℕ) (t : Title) → given blobs (title_under name) ≡ Ok t → HoldsTitle blobs name t
unfolding title_under
title_held blobs name t h =
    let p = took blobs (blob name) (λ bytes. understood BadTitle (title_of bytes)) t h in
    record { bytes = p.value; held = was_held blobs name p.value p.first; read = was_understood blobs BadTitle (title_of p.value) t p.then }

neither : (a b : Bool) → not (a || b) ≡ true → (not a ≡ true) × (not b ≡ true)
neither true b is = absurd cc
neither false b is = (refl, is)

was_made : (d : Design) (r : Result Title Hindrance) (t : Title) → told_title d r ≡ Ok t → r ≡ Ok t
was_made d (Ok u) t is = let same : u ≡ t = cc in ap Ok same
was_made d (Err h) t is = absurd cc

same_text : (x y : List ℕ) → Exactly x ≡ Exactly y → y ≡ x
same_text x y is = cc

pub title_done : (blobs : Blobs) (design source out text : List ℕ) → given blobs (title design source out) ≡ Ok (Exactly text) → IsMadeTitle blobs design source out text
unfolding title
title_done blobs design source out text h =
    let other = met blobs (not (bytes_eq out design || bytes_eq out source)) (SameName out) _ (Exactly text) h in
    let both = neither (bytes_eq out design) (bytes_eq out source) other.so in
    let d = took blobs (design_under design) _ (Exactly text) other.then in
    let p = took blobs (playlist_under source) _ (Exactly text) d.then in
    let t = took blobs (title_made d.value p.value) _ (Exactly text) p.then in
    let design_blob = design_held blobs design d.value d.first in
    let source_blob = playlist_held blobs source p.value p.first in
    let is_made = was_made d.value (made BLOB_LIMIT blobs d.value p.value) t.value (sym (title_given blobs d.value p.value) ∙ t.first) in
    let valid = made_valid BLOB_LIMIT blobs d.value p.value t.value (design_is_valid design_blob.bytes d.value design_blob.read) (read_allowed source_blob.bytes p.value source_blob.read) is_made in
    let is_text = same_text (title_text t.value) text (was_given blobs (Exactly (title_text t.value)) (Exactly text) t.then) in
    record {
      d = d.value;
      p = p.value;
      t = t.value;
      holds_design = design_blob;
      holds_playlist = source_blob;
      not_design = differs out design both.0;
      not_source = differs out source both.1;
      is_made = is_made;
      valid = valid;
      is_text = is_text;
      read_again = written_is_read text t.value valid is_text;
    }

pub playlist_done : (blobs : Blobs) (title register name out text : List ℕ) → given blobs (package_ title register name out) ≡ Ok (Exactly text) → IsMadePlaylist blobs title register name out text
unfolding package_ packaged
playlist_done blobs title register name out text h =
    let other = met blobs (not (bytes_eq out title || bytes_eq out register)) (SameName out) _ (Exactly text) h in
    let both = neither (bytes_eq out title) (bytes_eq out register) other.so in
    let t = took blobs (title_under title) _ (Exactly text) other.then in
    let e = took blobs (register_under register) _ (Exactly text) t.then in
    let fit = met blobs (fits t.value e.value) (Mismatch t.value.design.bits t.value.design.dimension e.value.bits e.value.dimension) _ (Exactly text) e.then in
    let serial = took blobs (found (Unknown name) (serial_of (names_of e.value.licensees) name)) _ (Exactly text) fit.then in
    let active = met blobs (is_active e.value serial.value) (Withdrawn name) _ (Exactly text) serial.then in
    let title_blob = title_held blobs title t.value t.first in
    let valid = (read_was_written title_blob.bytes t.value title_blob.read).valid in
    let is_text = same_text (licensed_text t.value e.value serial.value) text (was_given blobs (Exactly (licensed_text t.value e.value serial.value)) (Exactly text) active.then) in
    record {
      t = t.value;
      e = e.value;
      serial = serial.value;
      holds_title = title_blob;
      holds_register = register_held blobs register e.value e.first;
      not_title = differs out title both.0;
      not_register = differs out register both.1;
      same_code = fit.so;
      enrolled = was_found blobs (Unknown name) (serial_of (names_of e.value.licensees) name) serial.value serial.first;
      active = active.so;
      is_text = is_text;
      read_again = ap playlist_of is_text ∙ playlist_again (licensed_list t.value e.value serial.value) (licensed_valid t.value e.value serial.value (licensable t.value e.value valid fit.so));
    }
