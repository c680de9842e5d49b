-- One line of a licensee more: where the reading of the rest goes on, and where it ends.
use Rattle.std.proofs.Common.{◌≡◌, ℕ, zero, suc, ◌+◌, Bool, true, false, eqb, List, [], ◌∷◌, ◌++◌, length, Option, Some, None, Result, Ok, Err, refl, sym, ap, ◌∙◌, subst, arith}
use Rattle.std.specs.Result.{IfOk}
use Rattle.std.proofs.lemmas.Bool.{eqb-true}
use Rattle.std.proofs.lemmas.List.{nil_from_length}
use Rattle.form_terms.specs.Forms.{Place, place, before, Form, fault, then_at, followed, ◌>>=◌, ◌>>◌, give, demand, lack_of, next_line, said, row, rows_after, lines_left, the_end, found_in}
use Rattle.form_terms.proofs.FormLaws.{join, given, unhindered, line_read}
use Rattle.register_terms.specs.declared.edition.Edition.{Edition}
use Rattle.register_terms.specs.declared.fault.RegisterKind.{RegisterKind}
use Rattle.register_terms.specs.declared.fault.RegisterKind.TheVariants.{Ending, Header}
use Rattle.register_terms.specs.Enrolment.{Licensee, Enrolment, IsValid}
use Rattle.register_terms.specs.Rules.{with_licensees, with_licensee, refusal_of}
use Rattle.register_terms.specs.RegisterText.{RegisterFault, IsTextOf, header_form, licensee_in, later, licensee_row, licensees_form, register_form, register_of}
use Rattle.register_terms.proofs.Texts.{read_was_written}
use Rattle.lic_register.specs.Answers.{ReadsAs}
use Rattle.lic_register.specs.declared.errors.RegisterReadError.{RegisterReadError}
use Rattle.lic_register.specs.Parts.{register_at}

finish : Enrolment → List Licensee → Form RegisterKind Enrolment
finish e licensees = the_end Ending >> give (with_licensees e licensees)

opened : (edition : Edition) (e : Enrolment) (past : List Licensee) (at : Place) → licensees_form edition e past at ≡ then_at (rows_after past (length at.lines) (licensee_row edition e) at) (finish e)
unfolding licensees_form followed lines_left finish
opened edition e past at = refl

one_more : (form : List Licensee → Form RegisterKind Licensee) (past : List Licensee) (at : Place) (count n : ℕ) → count ≡ suc n → rows_after past count form at ≡ then_at (form past at) (λ x. rows_after (past ++ x ∷ []) n form)
unfolding rows_after followed
one_more form past at count n is = rw is refl

-- the reading of the rest does not hang on the licensees that are named beside the numbers
same_rest : (edition : Edition) (e : Enrolment) (x : Licensee) (past : List Licensee) (at : Place) → licensees_form edition (with_licensee e x) past at ≡ licensees_form edition e past at
unfolding licensees_form licensee_row
same_rest edition e x past at = refl

-- the licensee on the line is enrolled, and the rest is read behind it
pub goes_on : (edition : Edition) (e : Enrolment) (at after : Place) (x : Licensee) → row later (licensee_in edition) at ≡ Ok (x, after) → refusal_of e x.name ≡ None → register_at edition e at ≡ register_at edition (with_licensee e x) after
unfolding licensee_row
goes_on edition e at after x is free =
    let past = e.licensees in
    let l = line_read later is in
    let count : length at.lines ≡ suc (length after.lines) = ap length l.took.lines_are in
    let rowed : licensee_row edition e past at ≡ Ok (x, after) = join (row later (licensee_in edition)) _ is (join (demand (refusal_of e x.name)) _ (unhindered (refusal_of e x.name) after free) (given x after)) in
    let here : licensees_form edition e past at ≡ licensees_form edition e (past ++ x ∷ []) after =
    opened edition e past at
    ∙ ap (λ (r : Result (List Licensee × Place) RegisterFault). then_at r (finish e)) (one_more (licensee_row edition e) past at (length at.lines) (length after.lines) count ∙ ap (λ (r : Result (Licensee × Place) RegisterFault). then_at r (λ y. rows_after (past ++ y ∷ []) (length after.lines) (licensee_row edition e))) rowed)
    ∙ sym (opened edition e (past ++ x ∷ []) after) in
    ap found_in (here ∙ sym (same_rest edition e x (past ++ x ∷ []) after))

-- ---- where the reading ends

refused_row : (edition : Edition) (e : Enrolment) (at : Place) (n : ℕ) (refusal : RegisterFault) → length at.lines ≡ suc n → licensee_row edition e e.licensees at ≡ Err refusal → register_at edition e at ≡ Err refusal
refused_row edition e at n refusal count is =
    let past = e.licensees in
    ap found_in (
    opened edition e past at
    ∙ ap (λ (r : Result (List Licensee × Place) RegisterFault). then_at r (finish e)) (one_more (licensee_row edition e) past at (length at.lines) n count ∙ ap (λ (r : Result (Licensee × Place) RegisterFault). then_at r (λ y. rows_after (past ++ y ∷ []) n (licensee_row edition e))) is)
    )

refused_step : (edition : Edition) (e : Enrolment) (at after : Place) (x : Licensee) (kind : RegisterKind) → row later (licensee_in edition) at ≡ Ok (x, after) → refusal_of e x.name ≡ Some kind → licensee_row edition e e.licensees at ≡ Err (fault after.number kind)
unfolding licensee_row followed demand
refused_step edition e at after x kind is refused = rw (is, refused) refl

-- the name on the line is refused
pub refused_name : (edition : Edition) (e : Enrolment) (at after : Place) (x : Licensee) (kind : RegisterKind) → row later (licensee_in edition) at ≡ Ok (x, after) → refusal_of e x.name ≡ Some kind → register_at edition e at ≡ Err (fault after.number kind)
refused_name edition e at after x kind is refused =
    let l = line_read later is in
    refused_row edition e at (length after.lines) (fault after.number kind) (ap length l.took.lines_are) (refused_step edition e at after x kind is refused)

refused_form : (edition : Edition) (e : Enrolment) (at : Place) (refusal : RegisterFault) → row later (licensee_in edition) at ≡ Err refusal → licensee_row edition e e.licensees at ≡ Err refusal
unfolding licensee_row followed
refused_form edition e at refusal is = rw is refl

not_over : (at : Place) → eqb (length at.lines + length at.tail) 0 ≡ false → the_end Ending at ≡ Err (fault (at.number + 1) Ending)
unfolding the_end
not_over at more = rw more refl

lack_is : (missing unended : RegisterKind) (tail : List ℕ) → eqb (length tail) 0 ≡ false → lack_of missing unended tail ≡ unended
lack_is missing unended tail more = rw more refl

row_is : (edition : Edition) (number : ℕ) (tail : List ℕ) → row later (licensee_in edition) (place number [] tail) ≡ Err (fault (number + 1) (lack_of Header Ending tail))
unfolding row followed next_line
row_is edition number tail = refl

nothing_more : (edition : Edition) (e : Enrolment) (number : ℕ) (tail : List ℕ) → then_at (rows_after e.licensees 0 (licensee_row edition e) (place number [] tail)) (finish e) ≡ then_at (the_end Ending (place number [] tail)) (λ _. give (with_licensees e e.licensees))
unfolding rows_after give finish followed
nothing_more edition e number tail = refl

no_row : (edition : Edition) (e : Enrolment) (number : ℕ) (tail : List ℕ) (refusal : RegisterFault) → eqb (0 + length tail) 0 ≡ false → row later (licensee_in edition) (place number [] tail) ≡ Err refusal → register_at edition e (place number [] tail) ≡ Err refusal
no_row edition e number tail refusal more is =
    let same : 0 + length tail ≡ length tail = omega arith in
    let some : eqb (length tail) 0 ≡ false = subst (λ (n : ℕ). eqb n 0 ≡ false) same more in
    let ended : Result (Enrolment × Place) RegisterFault = Err (fault (number + 1) Ending) in
    let lack : found_in ended ≡ Err refusal = ap (λ (kind : RegisterKind). Err (fault (number + 1) kind)) (sym (lack_is Header Ending tail some)) ∙ sym (ap row_fault (row_is edition number tail)) ∙ ap row_fault is in
    ap found_in (
    opened edition e e.licensees (place number [] tail)
    ∙ nothing_more edition e number tail
    ∙ ap (λ (r : Result (Unit {0} × Place) RegisterFault). then_at r (λ _. give (with_licensees e e.licensees))) (not_over (place number [] tail) more)
    ) ∙ lack
  where
    row_fault : Result (Licensee × Place) RegisterFault → Result Enrolment RegisterFault
    row_fault (Ok x) = Ok (record { bits = 0; dimension = 0; multiplier = 0; shift = 0; licensees = [] })
    row_fault (Err refusal) = Err refusal

-- the line is not there, or has not its form
pub refused_line : (edition : Edition) (e : Enrolment) (at : Place) (refusal : RegisterFault) → eqb (length at.lines + length at.tail) 0 ≡ false → row later (licensee_in edition) at ≡ Err refusal → register_at edition e at ≡ Err refusal
refused_line edition e at refusal more is = by edition e at.number at.lines at.tail refusal more is
  where
    form_refused : (edition : Edition) (e : Enrolment) (at : Place) (refusal : RegisterFault) → row later (licensee_in edition) at ≡ Err refusal → licensee_row edition e e.licensees at ≡ Err refusal
    form_refused edition e at refusal is = refused_form edition e at refusal is

    by : (edition : Edition) (e : Enrolment) (number : ℕ) (lines : List (List ℕ)) (tail : List ℕ) (refusal : RegisterFault) → eqb (length lines + length tail) 0 ≡ false → row later (licensee_in edition) (place number lines tail) ≡ Err refusal → register_at edition e (place number lines tail) ≡ Err refusal
    by edition e number [] tail refusal more is = no_row edition e number tail refusal more is
    by edition e number (text ∷ lines) tail refusal more is = refused_row edition e (place number (text ∷ lines) tail) (length lines) refusal refl (form_refused edition e (place number (text ∷ lines) tail) refusal is)

-- what is read is a valid register, and the bytes are one of its texts
pub is_text : (bytes : List ℕ) (answer : Result Enrolment RegisterReadError) → ReadsAs answer (register_of bytes) → IfOk answer (λ e. IsValid e × IsTextOf e bytes)
is_text bytes (Ok e) reads = let text = read_was_written bytes e reads in (text.valid, text.text)
is_text bytes (Err refusal) reads = tt

-- ---- the whole text

pub at_start : (bytes : List ℕ) → (before 0 bytes).number ≡ 0
unfolding before
at_start bytes = refl

pub first_lines_read : (edition : Edition) (e : Enrolment) (bytes : List ℕ) (at : Place) → header_form (before 0 bytes) ≡ Ok ((edition, e), at) → e.licensees ≡ [] → register_at edition e at ≡ register_of bytes
unfolding register_of register_form followed
first_lines_read edition e bytes at is nobody = rw (is, nobody) refl

pub first_lines_refused : (bytes : List ℕ) (refusal : RegisterFault) → header_form (before 0 bytes) ≡ Err refusal → register_of bytes ≡ Err refusal
unfolding register_of register_form followed
first_lines_refused bytes refusal is = rw is refl

read_to_end : (edition : Edition) (e : Enrolment) (number : ℕ) (tail : List ℕ) → tail ≡ [] → register_at edition e (place number [] tail) ≡ Ok e
unfolding licensees_form followed lines_left rows_after give the_end
read_to_end edition e number tail none = rw none refl

pub all_read : (edition : Edition) (e : Enrolment) (at : Place) → eqb (length at.lines + length at.tail) 0 ≡ true → register_at edition e at ≡ Ok e
all_read edition e at over = done edition e at.number at.lines at.tail over
  where
    last : (edition : Edition) (e : Enrolment) (number : ℕ) (tail : List ℕ) → tail ≡ [] → register_at edition e (place number [] tail) ≡ Ok e
    last edition e number tail none = read_to_end edition e number tail none

    done : (edition : Edition) (e : Enrolment) (number : ℕ) (lines : List (List ℕ)) (tail : List ℕ) → eqb (length lines + length tail) 0 ≡ true → register_at edition e (place number lines tail) ≡ Ok e
    done edition e number [] tail over = last edition e number tail (nil_from_length tail (omega (arith, eqb-true (0 + length tail) 0 over)))
    done edition e number (text ∷ lines) tail over = absurd (omega (arith, eqb-true (length (text ∷ lines) + length tail) 0 over))
