-- Where the first five lines stop, line by line.
use Rattle.std.proofs.Common.{◌≡◌, ℕ, ◌<◌, ◌^◌, Bool, true, false, codes, List, [], ◌∷◌, ◌++◌, get_or, Option, Some, None, Err, refl, sym, ap, ◌∙◌, subst, arith}
use Rattle.std.specs.Prelude.{nat_le}
use Rattle.std.specs.Fmt.{decimal}
use Rattle.std.proofs.lemmas.Bool.{and_parts, leb-true}
use Rattle.form_terms.specs.TextLines.{number_after}
use Rattle.form_terms.specs.Forms.{Form, Place, place, row, number_row, ◌>>=◌, give}
use Rattle.form_terms.specs.FirstFaults.{AtLine, whole, cut, nothing}
use Rattle.form_terms.proofs.LineLaws.{number_after-line}
use Rattle.form_terms.proofs.FormLaws.{Took, took_nothing, took_then, line_read, number_read}
use Rattle.form_terms.proofs.FaultLaws.{Breaks, first, next, breaks, never_broken, RowBreaks, missing, unended, wrong, row_breaks, NumberBreaks, no_number, refused, number_breaks, Stops}
use Rattle.register_terms.specs.declared.fault.RegisterKind.{RegisterKind}
use Rattle.register_terms.specs.declared.fault.RegisterKind.TheVariants.{Ending, Header, BadM, BadK, BadMultiplier, BadShift}
use Rattle.register_terms.specs.declared.edition.Edition.{Edition}
use Rattle.register_terms.specs.declared.edition.Edition.TheVariants.{Newer}
use Rattle.register_terms.specs.Enrolment.{Enrolment}
use Rattle.register_terms.specs.Rules.{are_bits, is_dimension, is_multiplier, is_shift, empty_register}
use Rattle.register_terms.specs.RegisterText.{RegisterFault, edition_line, edition_in, header, header_lines, header_form}
use Rattle.register_terms.specs.RegisterFaults.{Begins, wrong_with, number_on}
use Rattle.register_terms.proofs.HeaderLines.{IsRule, is_rule, edition_is, edition_again}
use Rattle.register_terms.proofs.Beginnings.{begins_shorter, begins_header, least_rule, header_of, same_number, small}

abbrev pub StopsHere : List (List ℕ) → List ℕ → RegisterFault → Type 0
StopsHere lines tail e = Stops Begins wrong_with lines tail e

-- ---- a line that says what no register's text says there

-- the table's lines for a row of the header that says something
record RowTable {A : Type 0} (reads : List ℕ → Option A) (front : List (List ℕ)) : Type 0 where
  at_nothing : wrong_with front nothing ≡ Some Header
  at_cut : wrong_with front cut ≡ Some Ending
  at_other : (text : List ℕ) → reads text ≡ None → wrong_with front (whole text) ≡ Some Header

-- what such a row says in every text that goes on there
record Said {A : Type 0} (reads : List ℕ → Option A) (allowed : A → Bool) (text : List ℕ) : Type 0 where
  x : A
  is : reads text ≡ Some x
  allows : allowed x ≡ true

abbrev Says : {A : Type 0} → (List ℕ → Option A) → (A → Bool) → List (List ℕ) → Type 0
Says {A} reads allowed front = (text : List ℕ) → Begins (front ++ text ∷ []) → Said reads allowed text

row_stops : {A : Type 0} (reads : List ℕ → Option A) (allowed : A → Bool) (front : List (List ℕ)) (at : Place) (lines : List (List ℕ)) (tail : List ℕ) (e : RegisterFault)
    → Took (place 0 lines tail) front at → Begins front → Says reads allowed front → RowTable reads front → RowBreaks header reads at e → StopsHere lines tail e
row_stops reads allowed front at lines tail e took begins says table (missing none no_tail is) = record {
  front = front;
  back = at.lines;
  are = took.lines_are;
  number = omega (arith, took.number_is, ap (λ (f : RegisterFault). f.line) is);
  begins = begins;
  stops = λ text more some. absurd (cc (none, some));
  first = ap (λ (stands : AtLine). wrong_with front stands) (rw (none, sym took.tail_is, no_tail) refl) ∙ table.at_nothing ∙ sym (ap (λ (f : RegisterFault). Some f.kind) is);
}
row_stops reads allowed front at lines tail e took begins says table (unended b bytes none some_tail is) = record {
  front = front;
  back = at.lines;
  are = took.lines_are;
  number = omega (arith, took.number_is, ap (λ (f : RegisterFault). f.line) is);
  begins = begins;
  stops = λ text more some. absurd (cc (none, some));
  first = ap (λ (stands : AtLine). wrong_with front stands) (rw (none, sym took.tail_is, some_tail) refl) ∙ table.at_cut ∙ sym (ap (λ (f : RegisterFault). Some f.kind) is);
}
row_stops reads allowed front at lines tail e took begins says table (wrong text more here unsaid is) = record {
  front = front;
  back = at.lines;
  are = took.lines_are;
  number = omega (arith, took.number_is, ap (λ (f : RegisterFault). f.line) is);
  begins = begins;
  stops = λ other others there goes_on.
      let same : text ≡ other = cc in
      let said = says other goes_on in
      let found = said.is in
      let none : reads other ≡ None = ap reads (sym same) ∙ unsaid in
      absurd (cc (found, none));
  first = ap (λ (stands : AtLine). wrong_with front stands) (rw here refl) ∙ table.at_other text unsaid ∙ sym (ap (λ (f : RegisterFault). Some f.kind) is);
}

-- the same for a row with a rule for its number
number_stops : (word : List ℕ) (allowed : ℕ → Bool) (broken : RegisterKind) (front : List (List ℕ)) (at : Place) (lines : List (List ℕ)) (tail : List ℕ) (e : RegisterFault)
    → Took (place 0 lines tail) front at → Begins front → Says (number_after word) allowed front → RowTable (number_after word) front
    → ((text : List ℕ) (n : ℕ) → number_after word text ≡ Some n → allowed n ≡ false → wrong_with front (whole text) ≡ Some broken)
    → NumberBreaks header word allowed broken at e → StopsHere lines tail e
number_stops word allowed broken front at lines tail e took begins says table at_rule (no_number by) = row_stops (number_after word) allowed front at lines tail e took begins says table by
number_stops word allowed broken front at lines tail e took begins says table at_rule (refused text more n here found not_allowed is) = record {
  front = front;
  back = at.lines;
  are = took.lines_are;
  number = omega (arith, took.number_is, ap (λ (f : RegisterFault). f.line) is);
  begins = begins;
  stops = λ other others there goes_on.
      let same : text ≡ other = cc in
      let said = says other goes_on in
      let again = said.is in
      let is_allowed = said.allows in
      let found_there : number_after word other ≡ Some n = ap (number_after word) (sym same) ∙ found in
      let number : said.x ≡ n = cc in
      absurd (cc (is_allowed, not_allowed, number));
  first = ap (λ (stands : AtLine). wrong_with front stands) (rw here refl) ∙ at_rule text n found not_allowed ∙ sym (ap (λ (f : RegisterFault). Some f.kind) is);
}

-- ---- the five rows

edition_table : RowTable edition_in []
edition_table = record { at_nothing = refl; at_cut = refl; at_other = λ text none. rw none refl }

edition_says : Says edition_in (λ edition. true) []
edition_says text begins =
    let h = header_of ([] ++ text ∷ []) begins in
    let here : edition_line h.edition ≡ text = ap (λ (lines : List (List ℕ)). get_or lines 0 []) h.are in
    record { x = h.edition; is = ap edition_in (sym here) ∙ edition_again h.edition; allows = refl }

bits_table : (edition : List ℕ) → RowTable (number_after (codes "m ")) (edition ∷ [])
bits_table edition = record { at_nothing = refl; at_cut = refl; at_other = λ text none. rw none refl }

bits_says : (edition : List ℕ) → Says (number_after (codes "m ")) are_bits (edition ∷ [])
bits_says edition text begins =
    let h = header_of ((edition ∷ []) ++ text ∷ []) begins in
    let here : codes "m " ++ decimal h.register.bits ≡ text = ap (λ (lines : List (List ℕ)). get_or lines 1 []) h.are in
    record { x = h.register.bits; is = ap (number_after (codes "m ")) (sym here) ∙ number_after-line (codes "m ") h.register.bits (small h.register h.valid).bits; allows = (is_rule h.register h.valid).bits }

dimension_table : (edition m : List ℕ) → RowTable (number_after (codes "k ")) (edition ∷ m ∷ [])
dimension_table edition m = record { at_nothing = refl; at_cut = refl; at_other = λ text none. rw none refl }

dimension_says : (edition m : List ℕ) → Says (number_after (codes "k ")) is_dimension (edition ∷ m ∷ [])
dimension_says edition m text begins =
    let h = header_of ((edition ∷ m ∷ []) ++ text ∷ []) begins in
    let here : codes "k " ++ decimal h.register.dimension ≡ text = ap (λ (lines : List (List ℕ)). get_or lines 2 []) h.are in
    record { x = h.register.dimension; is = ap (number_after (codes "k ")) (sym here) ∙ number_after-line (codes "k ") h.register.dimension (small h.register h.valid).dimension; allows = (is_rule h.register h.valid).dimension }

moved : (test : ℕ → ℕ → Bool) (x y k l : ℕ) → x ≡ y → k ≡ l → test x k ≡ true → test y l ≡ true
moved test x y k l same also is = rw (← same, ← also) is

multiplier_table : (edition m k : List ℕ) → RowTable (number_after (codes "a ")) (edition ∷ m ∷ k ∷ [])
multiplier_table edition m k = record { at_nothing = refl; at_cut = refl; at_other = λ text none. rw none refl }

multiplier_says : (edition : List ℕ) (m k : ℕ) → m < 2 ^ 128 → k < 2 ^ 128 → Says (number_after (codes "a ")) (is_multiplier m k) (edition ∷ (codes "m " ++ decimal m) ∷ (codes "k " ++ decimal k) ∷ [])
multiplier_says edition m k m_small k_small text begins =
    let h = header_of ((edition ∷ (codes "m " ++ decimal m) ∷ (codes "k " ++ decimal k) ∷ []) ++ text ∷ []) begins in
    let low = small h.register h.valid in
    let same_m : h.register.bits ≡ m = same_number (codes "m ") h.register.bits m low.bits m_small (ap (λ (lines : List (List ℕ)). get_or lines 1 []) h.are) in
    let same_k : h.register.dimension ≡ k = same_number (codes "k ") h.register.dimension k low.dimension k_small (ap (λ (lines : List (List ℕ)). get_or lines 2 []) h.are) in
    let here : codes "a " ++ decimal h.register.multiplier ≡ text = ap (λ (lines : List (List ℕ)). get_or lines 3 []) h.are in
    record {
      x = h.register.multiplier;
      is = ap (number_after (codes "a ")) (sym here) ∙ number_after-line (codes "a ") h.register.multiplier low.multiplier;
      allows = moved (λ x y. is_multiplier x y h.register.multiplier) h.register.bits m h.register.dimension k same_m same_k (is_rule h.register h.valid).multiplier;
    }

shift_table : (edition m k a : List ℕ) → RowTable (number_after (codes "b ")) (edition ∷ m ∷ k ∷ a ∷ [])
shift_table edition m k a = record { at_nothing = refl; at_cut = refl; at_other = λ text none. rw none refl }

shift_says : (edition a : List ℕ) (m k : ℕ) → m < 2 ^ 128 → k < 2 ^ 128 → Says (number_after (codes "b ")) (is_shift m k) (edition ∷ (codes "m " ++ decimal m) ∷ (codes "k " ++ decimal k) ∷ a ∷ [])
shift_says edition a m k m_small k_small text begins =
    let h = header_of ((edition ∷ (codes "m " ++ decimal m) ∷ (codes "k " ++ decimal k) ∷ a ∷ []) ++ text ∷ []) begins in
    let low = small h.register h.valid in
    let same_m : h.register.bits ≡ m = same_number (codes "m ") h.register.bits m low.bits m_small (ap (λ (lines : List (List ℕ)). get_or lines 1 []) h.are) in
    let same_k : h.register.dimension ≡ k = same_number (codes "k ") h.register.dimension k low.dimension k_small (ap (λ (lines : List (List ℕ)). get_or lines 2 []) h.are) in
    let here : codes "b " ++ decimal h.register.shift ≡ text = ap (λ (lines : List (List ℕ)). get_or lines 4 []) h.are in
    record {
      x = h.register.shift;
      is = ap (number_after (codes "b ")) (sym here) ∙ number_after-line (codes "b ") h.register.shift low.shift;
      allows = moved (λ x y. is_shift x y h.register.shift) h.register.bits m h.register.dimension k same_m same_k (is_rule h.register h.valid).shift;
    }

-- ---- all five together

front_of : (edition : Edition) (m k a b : ℕ) (front back : List (List ℕ)) → IsRule m k a b → header_lines edition (empty_register m k a b) ≡ front ++ back → Begins front
front_of edition m k a b front back rule is = begins_shorter front back (subst Begins is (begins_header edition m k a b rule))

low_number : (m : ℕ) → are_bits m ≡ true → m < 2 ^ 128
low_number m is = omega (arith, leb-true m 8 (and_parts (nat_le 4 m) (nat_le m 8) is).1)

low_dimension : (k : ℕ) → is_dimension k ≡ true → k < 2 ^ 128
low_dimension k is = omega (arith, leb-true k 13 (and_parts (nat_le 2 k) (nat_le k 13) is).1)

-- the number that a line was read to have
pub on_line : (word : List ℕ) (n : ℕ) → n < 2 ^ 128 → number_on word (word ++ decimal n) ≡ n
on_line word n low = rw (number_after-line word n low) refl

multiplier_refused : (edition : List ℕ) (m k : ℕ) → m < 2 ^ 128 → k < 2 ^ 128 → (text : List ℕ) (n : ℕ) → number_after (codes "a ") text ≡ Some n → is_multiplier m k n ≡ false
    → wrong_with (edition ∷ (codes "m " ++ decimal m) ∷ (codes "k " ++ decimal k) ∷ []) (whole text) ≡ Some BadMultiplier
multiplier_refused edition m k m_low k_low text n found is = rw (on_line (codes "m ") m m_low, on_line (codes "k ") k k_low, found, is) refl

shift_refused : (edition a : List ℕ) (m k : ℕ) → m < 2 ^ 128 → k < 2 ^ 128 → (text : List ℕ) (n : ℕ) → number_after (codes "b ") text ≡ Some n → is_shift m k n ≡ false
    → wrong_with (edition ∷ (codes "m " ++ decimal m) ∷ (codes "k " ++ decimal k) ∷ a ∷ []) (whole text) ≡ Some BadShift
shift_refused edition a m k m_low k_low text n found is = rw (on_line (codes "m ") m m_low, on_line (codes "k ") k k_low, found, is) refl

-- what stands behind the first lines
abbrev from_shift : Edition → ℕ → ℕ → ℕ → Form RegisterKind (Edition × Enrolment)
from_shift edition m k a = number_row header (codes "b ") (is_shift m k) BadShift >>= λ b. give (edition, empty_register m k a b)

abbrev from_multiplier : Edition → ℕ → ℕ → Form RegisterKind (Edition × Enrolment)
from_multiplier edition m k = number_row header (codes "a ") (is_multiplier m k) BadMultiplier >>= λ a. from_shift edition m k a

abbrev from_dimension : Edition → ℕ → Form RegisterKind (Edition × Enrolment)
from_dimension edition m = number_row header (codes "k ") is_dimension BadK >>= λ k. from_multiplier edition m k

abbrev from_bits : Edition → Form RegisterKind (Edition × Enrolment)
from_bits edition = number_row header (codes "m ") are_bits BadM >>= λ m. from_dimension edition m

-- what was read of the first four lines
record ReadTo (edition : Edition) (m k a : ℕ) : Type 0 where
  bits : are_bits m ≡ true
  dimension : is_dimension k ≡ true
  multiplier : is_multiplier m k a ≡ true

shift_stage : (edition : Edition) (m k a : ℕ) (at : Place) (lines : List (List ℕ)) (tail : List ℕ) (e : RegisterFault) → ReadTo edition m k a
    → Took (place 0 lines tail) (edition_line edition ∷ (codes "m " ++ decimal m) ∷ (codes "k " ++ decimal k) ∷ (codes "a " ++ decimal a) ∷ []) at
    → Breaks {B = Edition × Enrolment} (number_row header (codes "b ") (is_shift m k) BadShift) (λ b. give (edition, empty_register m k a b)) at e → StopsHere lines tail e
shift_stage edition m k a at lines tail e read took (first halt) =
    let m_low = low_number m read.bits in
    let k_low = low_dimension k read.dimension in
    let m_line : List ℕ = codes "m " ++ decimal m in
    let k_line : List ℕ = codes "k " ++ decimal k in
    let a_line : List ℕ = codes "a " ++ decimal a in
    let rule : IsRule m k a 0 = record { bits = read.bits; dimension = read.dimension; multiplier = read.multiplier; shift = (least_rule m k read.bits read.dimension).shift } in
    number_stops (codes "b ") (is_shift m k) BadShift (edition_line edition ∷ m_line ∷ k_line ∷ a_line ∷ []) at lines tail e took
    (front_of edition m k a 0 (edition_line edition ∷ m_line ∷ k_line ∷ a_line ∷ []) ((codes "b " ++ decimal 0) ∷ []) rule refl)
    (shift_says (edition_line edition) a_line m k m_low k_low) (shift_table (edition_line edition) m_line k_line a_line)
    (shift_refused (edition_line edition) a_line m k m_low k_low) (number_breaks header (codes "b ") (is_shift m k) BadShift at e halt)
shift_stage edition m k a at lines tail e read took (next b after done behind) = never_broken (edition, empty_register m k a b) after e behind

multiplier_stage : (edition : Edition) (m k : ℕ) (at : Place) (lines : List (List ℕ)) (tail : List ℕ) (e : RegisterFault) → are_bits m ≡ true → is_dimension k ≡ true
    → Took (place 0 lines tail) (edition_line edition ∷ (codes "m " ++ decimal m) ∷ (codes "k " ++ decimal k) ∷ []) at
    → Breaks {B = Edition × Enrolment} (number_row header (codes "a ") (is_multiplier m k) BadMultiplier) (from_shift edition m k) at e → StopsHere lines tail e
multiplier_stage edition m k at lines tail e bits dimension took (first halt) =
    let m_low = low_number m bits in
    let k_low = low_dimension k dimension in
    let m_line : List ℕ = codes "m " ++ decimal m in
    let k_line : List ℕ = codes "k " ++ decimal k in
    number_stops (codes "a ") (is_multiplier m k) BadMultiplier (edition_line edition ∷ m_line ∷ k_line ∷ []) at lines tail e took
    (front_of edition m k 1 0 (edition_line edition ∷ m_line ∷ k_line ∷ []) ((codes "a " ++ decimal 1) ∷ (codes "b " ++ decimal 0) ∷ []) (least_rule m k bits dimension) refl)
    (multiplier_says (edition_line edition) m k m_low k_low) (multiplier_table (edition_line edition) m_line k_line)
    (multiplier_refused (edition_line edition) m k m_low k_low) (number_breaks header (codes "a ") (is_multiplier m k) BadMultiplier at e halt)
multiplier_stage edition m k at lines tail e bits dimension took (next a after done behind) =
    let line = number_read header BadMultiplier done in
    shift_stage edition m k a after lines tail e (record { bits = bits; dimension = dimension; multiplier = line.allows }) (took_then took line.took) (breaks behind)

dimension_stage : (edition : Edition) (m : ℕ) (at : Place) (lines : List (List ℕ)) (tail : List ℕ) (e : RegisterFault) → are_bits m ≡ true
    → Took (place 0 lines tail) (edition_line edition ∷ (codes "m " ++ decimal m) ∷ []) at
    → Breaks {B = Edition × Enrolment} (number_row header (codes "k ") is_dimension BadK) (from_multiplier edition m) at e
    → StopsHere lines tail e
dimension_stage edition m at lines tail e bits took (first halt) =
    let m_line : List ℕ = codes "m " ++ decimal m in
    number_stops (codes "k ") is_dimension BadK (edition_line edition ∷ m_line ∷ []) at lines tail e took
    (front_of edition m 2 1 0 (edition_line edition ∷ m_line ∷ []) ((codes "k " ++ decimal 2) ∷ (codes "a " ++ decimal 1) ∷ (codes "b " ++ decimal 0) ∷ []) (least_rule m 2 bits refl) refl)
    (dimension_says (edition_line edition) m_line) (dimension_table (edition_line edition) m_line)
    (λ text n found is. rw (found, is) refl) (number_breaks header (codes "k ") is_dimension BadK at e halt)
dimension_stage edition m at lines tail e bits took (next k after done behind) =
    let line = number_read header BadK done in
    multiplier_stage edition m k after lines tail e bits line.allows (took_then took line.took) (breaks behind)

bits_stage : (edition : Edition) (at : Place) (lines : List (List ℕ)) (tail : List ℕ) (e : RegisterFault)
    → Took (place 0 lines tail) (edition_line edition ∷ []) at
    → Breaks {B = Edition × Enrolment} (number_row header (codes "m ") are_bits BadM) (from_dimension edition) at e
    → StopsHere lines tail e
bits_stage edition at lines tail e took (first halt) =
    number_stops (codes "m ") are_bits BadM (edition_line edition ∷ []) at lines tail e took
    (front_of edition 4 2 1 0 (edition_line edition ∷ []) ((codes "m " ++ decimal 4) ∷ (codes "k " ++ decimal 2) ∷ (codes "a " ++ decimal 1) ∷ (codes "b " ++ decimal 0) ∷ []) (least_rule 4 2 refl refl) refl)
    (bits_says (edition_line edition)) (bits_table (edition_line edition))
    (λ text n found is. rw (found, is) refl) (number_breaks header (codes "m ") are_bits BadM at e halt)
bits_stage edition at lines tail e took (next m after done behind) =
    let line = number_read header BadM done in
    dimension_stage edition m after lines tail e line.allows (took_then took line.took) (breaks behind)

pub header_stops : (lines : List (List ℕ)) (tail : List ℕ) (e : RegisterFault) → header_form (place 0 lines tail) ≡ Err e → StopsHere lines tail e
unfolding header_form
header_stops lines tail e is = by (breaks is)
  where
    by : Breaks {B = Edition × Enrolment} (row header edition_in) from_bits (place 0 lines tail) e → StopsHere lines tail e
    by (first halt) =
        row_stops edition_in (λ edition. true) [] (place 0 lines tail) lines tail e (took_nothing (place 0 lines tail))
        (front_of Newer 4 2 1 0 [] (header_lines Newer (empty_register 4 2 1 0)) (least_rule 4 2 refl refl) refl) edition_says edition_table (row_breaks header halt)
    by (next edition after done behind) =
        let line = line_read header done in
        let took : Took (place 0 lines tail) (edition_line edition ∷ []) after = subst (λ (t : List ℕ). Took (place 0 lines tail) (t ∷ []) after) (edition_is line.text edition line.says) line.took in
        bits_stage edition after lines tail e took (breaks behind)
