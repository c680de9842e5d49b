-- The two directions: a text of a valid register is read as that register, and what is read was the text of a valid one.
use Rattle.std.proofs.Common.{◌≡◌, ℕ, zero, suc, eqb, not, ◌+◌, ◌^◌, ◌<◌, ◌≤◌, Bool, true, false, codes, List, [], ◌∷◌, ◌++◌, length, map, get_or, Ok, refl, sym, ap, ◌∙◌, subst, append-nil, arith}
use Rattle.std.specs.List.{All, flat_map, list_all}
use Rattle.std.specs.Fmt.{decimal}
use Rattle.std.proofs.Math.Pow.{pow_mono}
use Rattle.std.proofs.Math.Nat.{mul-le-mul}
use Rattle.std.proofs.lemmas.List.{length-map}
use Rattle.std.proofs.lemmas.List.Elements.{All-append}
use Rattle.text_terms.specs.Names.{is_plain}
use Rattle.text_terms.proofs.NameLaws.{plain_no_line_feed}
use Rattle.form_terms.specs.TextLines.{line}
use Rattle.form_terms.specs.Forms.{Place, place, before, lines_left, rows_after, the_end, found_in}
use Rattle.form_terms.proofs.LineLaws.{OneLine, OneLine-decimal, OneLine_from, OneLine-append}
use Rattle.form_terms.proofs.FormLaws.{Took, took_then, split, join, gave, given, ended, ends, rows_read, rows_again, text_read, whole_text, before_lines, counted}
use Rattle.register_terms.specs.declared.fault.RegisterKind.TheVariants.{Ending}
use Rattle.register_terms.specs.declared.edition.Edition.{Edition}
use Rattle.register_terms.specs.declared.edition.Edition.TheVariants.{Newer, Older}
use Rattle.register_terms.specs.Enrolment.{Licensee, Enrolment, IsValid, names_of, message_count}
use Rattle.register_terms.specs.Rules.{with_licensees}
use Rattle.register_terms.specs.RegisterText.{edition_line, header_lines, licensee_line, register_lines, register_text, older_text, IsTextOf, newer, older, in_state, header_form, licensee_row, licensees_form, register_form, register_of}
use Rattle.register_terms.proofs.HeaderLines.{header_read, header_again}
use Rattle.register_terms.proofs.LicenseeLines.{IsSaid, IsSoFar, row_read, row_again}

-- ---- small lists

pub all_nil : {A : Type 0} (P : A → Type 0) → All P []
all_nil P = λ i d lt. absurd (omega arith)

all_cons : {A : Type 0} (P : A → Type 0) (x : A) (xs : List A) → P x → All P xs → All P (x ∷ xs)
all_cons {A} P x xs first others = λ i. case i
  where
    case : (i : ℕ) (d : A) → i < suc (length xs) → P (get_or (x ∷ xs) i d)
    case zero d lt = first
    case (suc i) d lt = others i d (omega (arith, lt))

-- ---- what is read was written

record IsRest (edition : Edition) (e found : Enrolment) (past : List Licensee) (at after : Place) : Type 0 where
  more : List Licensee
  is : found ≡ with_licensees e (past ++ more)
  so_far : IsSoFar edition e (past ++ more)
  took : Took at (map (licensee_line edition) more) after
  lines : after.lines ≡ []
  tail : after.tail ≡ []

rest_read : (edition : Edition) (e found : Enrolment) (past : List Licensee) (at after : Place) → IsSoFar edition e past → licensees_form edition e past at ≡ Ok (found, after) → IsRest edition e found past at after
unfolding licensees_form
rest_read edition e found past at after so_far is =
    let c = split is in
    let count = counted c.first in
    let r = split c.next in
    let taken = rows_read (licensee_row edition e) (licensee_line edition) (IsSoFar edition e) (λ past x at after keeps one. row_read edition e past x at after keeps one) past c.x r.x c.between r.between so_far r.first in
    let d = split r.next in
    let over = ended Ending d.first in
    let g = gave d.next in
    let same_end : r.between ≡ after = over.same ∙ g.same in
    let from : Took at (map (licensee_line edition) taken.more) r.between = subst (λ (p : Place). Took p (map (licensee_line edition) taken.more) r.between) (sym count) taken.took in
    let same_list : with_licensees e r.x ≡ with_licensees e (past ++ taken.more) = ap (with_licensees e) taken.are in
    record {
      more = taken.more;
      is = sym g.is ∙ same_list;
      so_far = subst (IsSoFar edition e) taken.are taken.keeps;
      took = subst (λ (p : Place). Took at (map (licensee_line edition) taken.more) p) same_end from;
      lines = subst (λ (p : Place). p.lines ≡ []) same_end over.lines;
      tail = subst (λ (p : Place). p.tail ≡ []) same_end over.tail;
    }

pub text_by : (edition : Edition) (e : Enrolment) (bytes : List ℕ) → All (IsSaid edition) e.licensees → bytes ≡ flat_map line (register_lines edition e) → IsTextOf e bytes
unfolding register_text older_text
text_by Newer e bytes able is = newer is
text_by Older e bytes able is = older able is

pub record IsText (e : Enrolment) (bytes : List ℕ) : Type 0 where
  pub valid : IsValid e
  pub text : IsTextOf e bytes

pub read_was_written : (bytes : List ℕ) (e : Enrolment) → register_of bytes ≡ Ok e → IsText e bytes
unfolding register_of register_form
read_was_written bytes e is =
    let whole = text_read register_form bytes is in
    let h = split whole.is in
    let head = header_read (before 0 bytes) h.between h.x h.first in
    let edition : Edition = h.x.0 in
    let empty : Enrolment = h.x.1 in
    let start : IsSoFar edition empty [] = record { valid = subst IsValid (ap (with_licensees empty) head.nobody) head.valid; able = all_nil (IsSaid edition) } in
    let rest = rest_read edition empty e [] h.between whole.after start h.next in
    let made : Enrolment = with_licensees empty rest.more in
    let took : Took (before 0 bytes) (register_lines edition made) whole.after = took_then head.took rest.took in
    let text : bytes ≡ flat_map line (register_lines edition made) = whole_text bytes (register_lines edition made) whole.after took rest.lines rest.tail in
    let here : IsText made bytes = record { valid = rest.so_far.valid; text = text_by edition made bytes rest.so_far.able text } in
    subst (λ (f : Enrolment). IsText f bytes) (sym rest.is) here

-- ---- what is written is read

edition_one : (edition : Edition) → OneLine (edition_line edition)
edition_one Newer = OneLine_from (codes "register 2") refl
edition_one Older = OneLine_from (codes "register 1") refl

numbered : (word : List ℕ) (n : ℕ) → list_all (λ b. not (eqb b 10)) word ≡ true → n < 2 ^ 128 → OneLine (word ++ decimal n)
numbered word n one small = OneLine-append word (decimal n) (OneLine_from word one) (OneLine-decimal n small)

licensee_one : (edition : Edition) (active : Bool) (name : List ℕ) → OneLine name → OneLine (licensee_line edition (in_state active name))
licensee_one Newer true name one = OneLine-append (codes "active ") name (OneLine_from (codes "active ") refl) one
licensee_one Newer false name one = OneLine-append (codes "withdrawn ") name (OneLine_from (codes "withdrawn ") refl) one
licensee_one Older active name one = one

header_one_line : (edition : Edition) (e : Enrolment) → IsValid e → All OneLine (header_lines edition e)
header_one_line edition e valid =
    let few : message_count e ≤ 2 ^ 104 = pow_mono (mul-le-mul valid.bits_high valid.dimension_high) in
    let a_below = valid.multiplier_below in
    let b_below = valid.shift_below in
    let m_high = valid.bits_high in
    let k_high = valid.dimension_high in
    let form : OneLine (edition_line edition) = edition_one edition in
    let m : OneLine (codes "m " ++ decimal e.bits) = numbered (codes "m ") e.bits refl (omega arith) in
    let k : OneLine (codes "k " ++ decimal e.dimension) = numbered (codes "k ") e.dimension refl (omega arith) in
    let a : OneLine (codes "a " ++ decimal e.multiplier) = numbered (codes "a ") e.multiplier refl (omega arith) in
    let b : OneLine (codes "b " ++ decimal e.shift) = numbered (codes "b ") e.shift refl (omega arith) in
    let b_lines : List (List ℕ) = (codes "b " ++ decimal e.shift) ∷ [] in
    let a_lines : List (List ℕ) = (codes "a " ++ decimal e.multiplier) ∷ b_lines in
    let k_lines : List (List ℕ) = (codes "k " ++ decimal e.dimension) ∷ a_lines in
    let m_lines : List (List ℕ) = (codes "m " ++ decimal e.bits) ∷ k_lines in
    all_cons OneLine (edition_line edition) m_lines form
    (all_cons OneLine (codes "m " ++ decimal e.bits) k_lines m
    (all_cons OneLine (codes "k " ++ decimal e.dimension) a_lines k
    (all_cons OneLine (codes "a " ++ decimal e.multiplier) b_lines a
    (all_cons OneLine (codes "b " ++ decimal e.shift) [] b (all_nil OneLine)))))

licensees_one_line : (edition : Edition) (e : Enrolment) (licensees : List Licensee) → All (λ name. is_plain name ≡ true) (names_of licensees) → All OneLine (map (licensee_line edition) licensees)
licensees_one_line edition e [] plain = all_nil OneLine
licensees_one_line edition e (x ∷ licensees) plain =
    all_cons OneLine (licensee_line edition x) (map (licensee_line edition) licensees) (licensee_one edition x.active x.name (plain_no_line_feed x.name (plain 0 [] (omega arith)))) (licensees_one_line edition e licensees (λ i d lt. plain (suc i) d (omega (arith, lt))))

pub register_one_line : (edition : Edition) (e : Enrolment) → IsValid e → All OneLine (register_lines edition e)
register_one_line edition e valid = All-append OneLine (header_lines edition e) (map (licensee_line edition) e.licensees) (header_one_line edition e valid) (licensees_one_line edition e e.licensees valid.plain)

rest_again : (edition : Edition) (e : Enrolment) → IsSoFar edition (with_licensees e []) e.licensees → licensees_form edition (with_licensees e []) [] (place 5 (map (licensee_line edition) e.licensees) []) ≡ Ok (e, place (5 + length e.licensees) [] [])
unfolding licensees_form lines_left
rest_again edition e so_far =
    let empty : Enrolment = with_licensees e [] in
    let lines : List (List ℕ) = map (licensee_line edition) e.licensees in
    let count : length lines ≡ length e.licensees = length-map e.licensees (licensee_line edition) in
    let none : lines ++ [] ≡ lines = append-nil lines in
    let taken : rows_after [] (length e.licensees) (licensee_row edition empty) (place 5 (lines ++ []) []) ≡ Ok (e.licensees, place (5 + length e.licensees) [] []) = rows_again (licensee_row edition empty) (licensee_line edition) (IsSoFar edition empty) (λ past x more keeps number ls tail. row_again edition empty past x more keeps number ls tail) [] e.licensees 5 [] [] so_far in
    let here : rows_after [] (length lines) (licensee_row edition empty) (place 5 lines []) ≡ Ok (e.licensees, place (5 + length e.licensees) [] []) = rw (count, ← none) taken in
    join lines_left _ refl
    (join (rows_after [] (length lines) (licensee_row edition empty)) _ here
    (join (the_end Ending) _ (ends Ending (5 + length e.licensees)) (given e (place (5 + length e.licensees) [] []))))

edition_is_read : (edition : Edition) (e : Enrolment) → IsValid e → All (IsSaid edition) e.licensees → register_of (flat_map line (register_lines edition e)) ≡ Ok e
unfolding register_of register_form
edition_is_read edition e valid able =
    let lines : List (List ℕ) = map (licensee_line edition) e.licensees in
    let one : All OneLine (register_lines edition e) = register_one_line edition e valid in
    let so_far : IsSoFar edition (with_licensees e []) e.licensees = record { valid = valid; able = able } in
    ap (λ (p : Place). found_in (register_form p)) (before_lines (register_lines edition e) one)
    ∙ ap found_in (join header_form _ (header_again edition e lines valid) (rest_again edition e so_far))

pub written_is_read : (bytes : List ℕ) (e : Enrolment) → IsValid e → IsTextOf e bytes → register_of bytes ≡ Ok e
unfolding register_text older_text
written_is_read bytes e valid (newer is) = ap register_of is ∙ edition_is_read Newer e valid (λ i d lt. tt)
written_is_read bytes e valid (older able is) = ap register_of is ∙ edition_is_read Older e valid able
