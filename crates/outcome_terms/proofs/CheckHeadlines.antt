-- What a done `check` says, from what its reading gave.
use Rattle.std.proofs.Common.{◌≡◌, ◌∙◌, ℕ, List, Option, Ok, refl, sym, ap}
use Rattle.shelf_terms.specs.Blobs.{Blobs}
use Rattle.register_terms.specs.Enrolment.{Enrolment}
use Rattle.decoder_terms.specs.Decoding.{not_enough}
use Rattle.desk_terms.specs.declared.findings.Findings.{Findings}
use Rattle.desk_terms.specs.Roll.{roll_of}
use Rattle.packaging_terms.specs.Licensees.{fits}
use Rattle.report_terms.specs.Reports.{report_of}
use Rattle.report_terms.specs.Verdicts.{verdict}
use Rattle.report_terms.specs.declared.verdict.Verdict.{Verdict}
use Rattle.report_terms.specs.declared.verdict.Verdict.TheVariants as verdicts
use Rattle.outcome_terms.specs.declared.fault.Fault.TheVariants.{BadBound, BadReport}
use Rattle.outcome_terms.specs.Reading.{blob, found, given}
use Rattle.outcome_terms.specs.Registers.{register_under}
use Rattle.outcome_terms.specs.PackageCommand.{title_under, mismatch}
use Rattle.outcome_terms.specs.TraceCommand.{is_served, word_shown}
use Rattle.outcome_terms.specs.CheckCommand.{findings_under, right_line, told_verdict, judged, check}
use Rattle.outcome_terms.specs.CheckReports.{HoldsReport, IsCheckedRight}
use Rattle.outcome_terms.proofs.Givens.{took, met, was_given, was_held}
use Rattle.outcome_terms.proofs.Headlines.{register_held, was_found}
use Rattle.outcome_terms.proofs.PackagingHeadlines.{title_held}
use Rattle.outcome_terms.proofs.TraceHeadlines.{was_shown}

report_held : (blobs : Blobs) (name : List ℕ) (f : Findings) → given blobs (findings_under name) ≡ Ok f → HoldsReport blobs name f
unfolding findings_under
report_held blobs name f h =
    let t = took blobs (blob name) (λ bytes. found BadReport (report_of bytes)) f h in
    record { bytes = t.value; held = was_held blobs name t.value t.first; read = was_found blobs BadReport (report_of t.value) f t.then }

-- only the right verdict is answered by a text
record Told (v : Verdict) (text : List ℕ) : Type 0 where
  right : v ≡ verdicts.Right
  is_text : text ≡ right_line

told : (blobs : Blobs) (needed : ℕ) (v : Verdict) (text : List ℕ) → given blobs (told_verdict needed v) ≡ Ok text → Told v text
unfolding given
told blobs needed verdicts.Right text h = record { right = refl; is_text = sym (was_given blobs right_line text h) }
told blobs needed (verdicts.TooFew readable) text h = cc
told blobs needed verdicts.WrongReadable text h = cc
told blobs needed (verdicts.NotEnrolled position) text h = cc
told blobs needed (verdicts.Order position) text h = cc
told blobs needed (verdicts.WrongPlaces position) text h = cc
told blobs needed (verdicts.Below position) text h = cc
told blobs needed (verdicts.Absent serial) text h = cc

was_right : (blobs : Blobs) (e : Enrolment) (word : List (Option ℕ)) (f : Findings) (text : List ℕ) → given blobs (judged e word f) ≡ Ok text → Told (verdict (roll_of e) word f) text
unfolding judged
was_right blobs e word f text h = told blobs (not_enough e.dimension f.bound) (verdict (roll_of e) word f) text h

pub check_done : (blobs : Blobs) (title register copy report text : List ℕ) → given blobs (check title register copy report) ≡ Ok text → IsCheckedRight blobs title register copy report text
unfolding check
check_done blobs title register copy report text h =
    let t = took blobs (title_under title) _ text h in
    let e = took blobs (register_under register) _ text t.then in
    let same = met blobs (fits t.value e.value) (mismatch t.value e.value) _ text e.then in
    let f = took blobs (findings_under report) _ text same.then in
    let served = met blobs (is_served t.value f.value.bound) (BadBound f.value.bound) _ text f.then in
    let word = took blobs (word_shown t.value copy) _ text served.then in
    let shown = was_shown blobs t.value copy word.value word.first in
    let last = was_right blobs e.value word.value f.value text word.then in
    record {
      t = t.value;
      e = e.value;
      f = f.value;
      p = shown.p;
      holds_title = title_held blobs title t.value t.first;
      holds_register = register_held blobs register e.value e.first;
      same_code = same.so;
      holds_report = report_held blobs report f.value f.first;
      bound_served = served.so;
      holds_copy = shown.holds_copy;
      held = shown.held;
      right = ap (λ (w : List (Option ℕ)). verdict (roll_of e.value) w f.value) shown.is ∙ last.right;
      is_text = last.is_text;
    }
