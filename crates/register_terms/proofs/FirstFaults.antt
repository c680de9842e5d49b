-- A text's fault stands at the first line that no register's text goes on with.
use Rattle.std.proofs.Common.{◌≡◌, ℕ, ◌+◌, ◌-◌, List, [], length, take, drop, None, Result, Ok, Err, refl, sym, ap, ◌∙◌, subst, arith, inl, inr}
use Rattle.std.proofs.lemmas.Bool.{cases_lt}
use Rattle.std.proofs.lemmas.List.{take_all, drop_all}
use Rattle.form_terms.specs.TextLines.{ended_lines, rest_of}
use Rattle.form_terms.specs.Forms.{Place, place, before, found_in}
use Rattle.form_terms.specs.FirstFaults.{nothing, at_line, lines_before, IsFirstFault}
use Rattle.form_terms.proofs.FaultLaws.{Breaks, first, next, breaks, first_fault, one_first_fault, passes}
use Rattle.register_terms.specs.declared.edition.Edition.{Edition}
use Rattle.register_terms.specs.Enrolment.{Enrolment}
use Rattle.register_terms.specs.RegisterText.{RegisterFault, register_lines, header_form, licensees_form, register_form, register_of}
use Rattle.register_terms.specs.RegisterFaults.{Begins, wrong_with}
use Rattle.register_terms.proofs.HeaderLines.{header_read}
use Rattle.register_terms.proofs.Texts.{read_was_written}
use Rattle.register_terms.proofs.Beginnings.{begins_shorter, begins_whole, lines_of_text}
use Rattle.register_terms.proofs.HeaderFaults.{StopsHere, header_stops}
use Rattle.register_terms.proofs.LicenseeFaults.{licensees_stop}

form_stops : (lines : List (List ℕ)) (tail : List ℕ) (f : RegisterFault) → register_form (place 0 lines tail) ≡ Err f → StopsHere lines tail f
unfolding register_form
form_stops lines tail f is = by (breaks is)
  where
    by : Breaks {B = Enrolment} header_form (λ found. licensees_form found.0 found.1 []) (place 0 lines tail) f → StopsHere lines tail f
    by (first halt) = header_stops lines tail f halt
    by (next found between done behind) = licensees_stop found.0 found.1 lines tail between f (header_read (place 0 lines tail) between found done) behind

fault_found : (r : Result (Enrolment × Place) RegisterFault) (f : RegisterFault) → found_in r ≡ Err f → r ≡ Err f
fault_found (Ok x) f is = absurd cc
fault_found (Err e) f is = let same : e ≡ f = cc in ap (λ (g : RegisterFault). Err g) same

pub fault_is_first : (bytes : List ℕ) (f : RegisterFault) → register_of bytes ≡ Err f → IsFirstFault Begins wrong_with bytes f
unfolding register_of before
fault_is_first bytes f is =
    first_fault Begins wrong_with bytes f (form_stops (ended_lines bytes) (rest_of bytes) f (fault_found (register_form (before 0 bytes)) f is))

-- behind all lines of a register nothing is wrong
nothing_wrong : (edition : Edition) (e : Enrolment) → wrong_with (register_lines edition e) nothing ≡ None
nothing_wrong edition e = refl

no_fault : (bytes : List ℕ) (e : Enrolment) (f : RegisterFault) → register_of bytes ≡ Ok e → IsFirstFault Begins wrong_with bytes f → ⊥
no_fault bytes e f read is =
    let text = read_was_written bytes e read in
    let has = lines_of_text e bytes text.valid text.text in
    let lines : List (List ℕ) = ended_lines bytes in
    let all : take (length lines + 1 - 1) lines ≡ register_lines has.edition e = take_all (length lines + 1 - 1) lines (omega arith) ∙ has.lines in
    elim (cases_lt (f.line - 1) (length lines)) [
      | inl lt ↦ passes Begins begins_shorter bytes f.line (length lines + 1) is.numbered (omega (arith, lt)) (omega arith) (subst Begins (sym all) (begins_whole has.edition e text.valid has.able)) is.stops
      | inr le ↦
          let behind : drop (f.line - 1) lines ≡ [] = drop_all (f.line - 1) lines le in
          let stands : at_line bytes f.line ≡ nothing = rw (behind, has.nothing_behind) refl in
          let past : lines_before bytes f.line ≡ register_lines has.edition e = take_all (f.line - 1) lines le ∙ has.lines in
          let none : wrong_with (lines_before bytes f.line) (at_line bytes f.line) ≡ None = rw (stands, past) (nothing_wrong has.edition e) in
          let some = is.first in
          absurd (cc (none, some))
    ]

pub first_is_fault : (bytes : List ℕ) (f : RegisterFault) → IsFirstFault Begins wrong_with bytes f → register_of bytes ≡ Err f
first_is_fault bytes f is = by (register_of bytes) refl
  where
    by : (r : Result Enrolment RegisterFault) → register_of bytes ≡ r → register_of bytes ≡ Err f
    by (Ok e) read = absurd (no_fault bytes e f read is)
    by (Err g) read =
        let same : g ≡ f = one_first_fault Begins wrong_with begins_shorter bytes g f (fault_is_first bytes g read) is in
        read ∙ ap (λ (h : RegisterFault). Err h) same
