-- With which statuses the readings of the commands on titles can refuse.
use Rattle.std.proofs.Common.{◌≡◌, ℕ, List, [], ◌∷◌, Bool, true, Option, None, refl}
use Rattle.std.specs.Prelude.{not, ◌||◌, nat_lt}
use Rattle.std.specs.List.{position}
use Rattle.std.specs.Str.{bytes_eq}
use Rattle.sha2.specs.Sha256.{sha256}
use Rattle.code_terms.specs.Words.{readable}
use Rattle.register_terms.specs.Enrolment.{Enrolment, names_of, serial_of}
use Rattle.register_terms.specs.Rules.{is_active}
use Rattle.decoder_terms.specs.Decoding.{not_enough}
use Rattle.playlist_terms.specs.Playlists.{Playlist}
use Rattle.playlist_terms.specs.Reading.{playlist_of}
use Rattle.playlist_terms.specs.declared.fault.LineFault.{LineFault}
use Rattle.title_terms.specs.declared.fault.DesignFault.{DesignFault}
use Rattle.title_terms.specs.Designs.{Design}
use Rattle.title_terms.specs.DesignText.{design_of}
use Rattle.title_terms.specs.Titles.{Title}
use Rattle.title_terms.specs.TitleText.{TitleFault, title_of}
use Rattle.packaging_terms.specs.Licensees.{fits}
use Rattle.packaging_terms.specs.Variants.{variants, blob_of, unmarkable}
use Rattle.desk_terms.specs.declared.findings.Findings.{Findings}
use Rattle.desk_terms.specs.Roll.{roll_of}
use Rattle.report_terms.specs.Reports.{report_of}
use Rattle.report_terms.specs.Verdicts.{verdict}
use Rattle.report_terms.specs.declared.verdict.Verdict.{Verdict}
use Rattle.report_terms.specs.declared.verdict.Verdict.TheVariants as verdicts
use Rattle.outcome_terms.specs.declared.status.Status.{Status}
use Rattle.outcome_terms.specs.declared.fault.Fault.TheVariants.{BadDesign, BadPlaylist, BadTitle, BadReport, BadBound, TooFew, NoSegment, Unknown, Withdrawn, SameName}
use Rattle.outcome_terms.specs.Statuses.{fault_line}
use Rattle.outcome_terms.specs.Reading.{Reading, found, blob, each, AllowsReads, Within}
use Rattle.outcome_terms.specs.Registers.{register_under}
use Rattle.outcome_terms.specs.Along.{along}
use Rattle.outcome_terms.specs.TitleCommand.{design_under, playlist_under, digest_under, same_digest, with_digest, with_variant, title_made, title, title_statuses}
use Rattle.outcome_terms.specs.PackageCommand.{title_under, mismatch, packaged, package_, package_statuses}
use Rattle.outcome_terms.specs.AccuseCommand.{report}
use Rattle.outcome_terms.specs.TraceCommand.{is_served, segment_names, word_of_copy_under, word_shown, trace, trace_statuses}
use Rattle.outcome_terms.specs.CheckCommand.{findings_under, told_verdict, judged, check, check_statuses}
use Rattle.outcome_terms.specs.Commands.{may_end}
use Rattle.outcome_terms.specs.Outcome.{first_refusal}
use Rattle.outcome_terms.proofs.Rows.{within_then, within_give, within_blob, within_understood, within_met, within_none, within_found, within_words, register_within}

module _ (may : Status → Bool) where
  within_along : {X S : Type 0} (step : S → X → Reading S) (made : S) (xs : List X) → ((made : S) (x : X) → Within may (step made x)) → Within may (along step made xs)
  unfolding along Within
  within_along step made [] h = tt
  within_along step made (x ∷ xs) h = within_then may (step made x) _ (h made x) (λ more. within_along step more xs h)

  within_each : {X A : Type 0} (step : X → Reading A) (xs : List X) → ((x : X) → Within may (step x)) → Within may (each step xs)
  unfolding each Within
  within_each step [] h = tt
  within_each step (x ∷ xs) h = within_then may (step x) _ (h x) (λ y. within_then may (each step xs) _ (within_each step xs h) (λ ys. within_give may (y ∷ ys)))

  digest_within : (name : List ℕ) → AllowsReads may → Within may (digest_under name)
  unfolding digest_under
  digest_within name reads = within_then may (blob name) _ (within_blob may name reads) (λ bytes. within_give may (sha256 bytes))

  design_within : (name : List ℕ) → AllowsReads may → ((f : DesignFault) → may (fault_line (BadDesign f)).status ≡ true) → Within may (design_under name)
  unfolding design_under
  design_within name reads h = within_then may (blob name) _ (within_blob may name reads) (λ bytes. within_understood may BadDesign (design_of bytes) h)

  playlist_within : (name : List ℕ) → AllowsReads may → ((f : LineFault) → may (fault_line (BadPlaylist f)).status ≡ true) → Within may (playlist_under name)
  unfolding playlist_under
  playlist_within name reads h = within_then may (blob name) _ (within_blob may name reads) (λ bytes. within_understood may BadPlaylist (playlist_of bytes) h)

  pub title_under_within : (name : List ℕ) → AllowsReads may → ((f : TitleFault) → may (fault_line (BadTitle f)).status ≡ true) → Within may (title_under name)
  unfolding title_under
  title_under_within name reads h = within_then may (blob name) _ (within_blob may name reads) (λ bytes. within_understood may BadTitle (title_of bytes) h)

  pub word_shown_within : (t : Title) (copy : List ℕ) → AllowsReads may → ((f : LineFault) → may (fault_line (BadPlaylist f)).status ≡ true) → Within may (word_shown t copy)
  unfolding word_shown word_of_copy_under
  word_shown_within t copy reads h = within_then may (playlist_under copy) _ (playlist_within copy reads h)
      (λ p. within_then may (each digest_under (segment_names p)) _ (within_each digest_under (segment_names p) (λ name. digest_within name reads)) (λ digests. within_give may _))

-- ---- `title`

variant_within : (d : Design) (digests : List (List ℕ)) (variant : ℕ) → Within (may_end title_statuses) (with_variant d digests variant)
unfolding with_variant with_digest
variant_within d digests variant =
    let may = may_end title_statuses in
    let reads : AllowsReads may = record { missing = refl; failed = refl; long = refl } in
    within_then may (digest_under (blob_of d variant)) _ (digest_within may (blob_of d variant) reads)
    (λ digest. within_none may (λ earlier. same_digest d earlier variant) (position (bytes_eq digest) digests) _ (λ earlier. refl) (within_give may _))

made_within : (d : Design) (p : Playlist) → Within (may_end title_statuses) (title_made d p)
unfolding title_made
made_within d p =
    let may = may_end title_statuses in
    within_none may NoSegment (unmarkable d p) _ (λ segment. refl)
    (within_then may (along (with_variant d) [] (variants d)) _ (within_along may (with_variant d) [] (variants d) (variant_within d)) (λ digests. within_give may _))

pub title_within : (design source out : List ℕ) → first_refusal (title design source out) ≡ None → Within (may_end title_statuses) (title design source out)
unfolding title
title_within design source out is =
    let may = may_end title_statuses in
    let reads : AllowsReads may = record { missing = refl; failed = refl; long = refl } in
    within_words may (not (bytes_eq out design || bytes_eq out source)) (SameName out) _ is (λ is.
    within_then may (design_under design) _ (design_within may design reads (λ f. refl)) (λ d.
    within_then may (playlist_under source) _ (playlist_within may source reads (λ f. refl)) (λ p.
    within_then may (title_made d p) _ (made_within d p) (λ t. within_give may _))))

-- ---- `package`

packaged_within : (t : Title) (e : Enrolment) (name : List ℕ) → Within (may_end package_statuses) (packaged t e name)
unfolding packaged
packaged_within t e name =
    let may = may_end package_statuses in
    within_met may (fits t e) (mismatch t e) _ refl
    (within_then may (found (Unknown name) (serial_of (names_of e.licensees) name)) _ (within_found may (Unknown name) (serial_of (names_of e.licensees) name) refl)
    (λ serial. within_met may (is_active e serial) (Withdrawn name) _ refl (within_give may _)))

pub package_within : (name register licensee out : List ℕ) → first_refusal (package_ name register licensee out) ≡ None → Within (may_end package_statuses) (package_ name register licensee out)
unfolding package_
package_within name register licensee out is =
    let may = may_end package_statuses in
    let reads : AllowsReads may = record { missing = refl; failed = refl; long = refl } in
    within_words may (not (bytes_eq out name || bytes_eq out register)) (SameName out) _ is (λ is.
    within_then may (title_under name) _ (title_under_within may name reads (λ f. refl)) (λ t.
    within_then may (register_under register) _ (register_within may register reads (λ f. refl)) (λ e. packaged_within t e licensee)))

-- ---- `trace`

report_within : (e : Enrolment) (word : List (Option ℕ)) (c : ℕ) → Within (may_end trace_statuses) (report e word c)
unfolding report
report_within e word c =
    within_met (may_end trace_statuses) (nat_lt (not_enough e.dimension c) (readable word)) (TooFew (readable word) (not_enough e.dimension c)) _ refl (within_give (may_end trace_statuses) _)

pub trace_within : (name register copy : List ℕ) (c : ℕ) → Within (may_end trace_statuses) (trace name register copy c)
unfolding trace
trace_within name register copy c =
    let may = may_end trace_statuses in
    let reads : AllowsReads may = record { missing = refl; failed = refl; long = refl } in
    within_then may (title_under name) _ (title_under_within may name reads (λ f. refl)) (λ t.
    within_then may (register_under register) _ (register_within may register reads (λ f. refl)) (λ e.
    within_met may (fits t e) (mismatch t e) _ refl (within_met may (is_served t c) (BadBound c) _ refl
    (within_then may (word_shown t copy) _ (word_shown_within may t copy reads (λ f. refl)) (λ slots. report_within e slots c)))))

-- ---- `check`

told_within : (needed : ℕ) (v : Verdict) → Within (may_end check_statuses) (told_verdict needed v)
unfolding Within
told_within needed verdicts.Right = tt
told_within needed (verdicts.TooFew readable) = refl
told_within needed verdicts.WrongReadable = refl
told_within needed (verdicts.NotEnrolled position) = refl
told_within needed (verdicts.Order position) = refl
told_within needed (verdicts.WrongPlaces position) = refl
told_within needed (verdicts.Below position) = refl
told_within needed (verdicts.Absent serial) = refl

judged_within : (e : Enrolment) (word : List (Option ℕ)) (f : Findings) → Within (may_end check_statuses) (judged e word f)
unfolding judged
judged_within e word f = told_within (not_enough e.dimension f.bound) (verdict (roll_of e) word f)

findings_within : (name : List ℕ) → Within (may_end check_statuses) (findings_under name)
unfolding findings_under
findings_within name =
    let may = may_end check_statuses in
    let reads : AllowsReads may = record { missing = refl; failed = refl; long = refl } in
    within_then may (blob name) _ (within_blob may name reads) (λ bytes. within_found may BadReport (report_of bytes) refl)

pub check_within : (name register copy reported : List ℕ) → Within (may_end check_statuses) (check name register copy reported)
unfolding check
check_within name register copy reported =
    let may = may_end check_statuses in
    let reads : AllowsReads may = record { missing = refl; failed = refl; long = refl } in
    within_then may (title_under name) _ (title_under_within may name reads (λ f. refl)) (λ t.
    within_then may (register_under register) _ (register_within may register reads (λ f. refl)) (λ e.
    within_met may (fits t e) (mismatch t e) _ refl (within_then may (findings_under reported) _ (findings_within reported) (λ f.
    within_met may (is_served t f.bound) (BadBound f.bound) _ refl
    (within_then may (word_shown t copy) _ (word_shown_within may t copy reads (λ f. refl)) (λ slots. judged_within e slots f))))))
