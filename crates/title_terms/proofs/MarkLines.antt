-- The lines of the marked segments: what is written is read, and what is read was written.
use Rattle.std.proofs.Common.{◌≡◌, ◌∙◌, sym, ap, subst, ℕ, ◌+◌, ◌-◌, ◌^◌, ◌<◌, ◌≤◌, Bool, true, false, ◌&&◌, ◌||◌, eqb, List, [], ◌∷◌, ◌++◌, length, length-append, get_or, map, codes, Ok, All, refl, arith, inl, inr}
use Rattle.std.specs.Prelude.{nat_lt}
use Rattle.std.specs.Fmt.{decimal}
use Rattle.std.specs.List.Sorted.{IsStrictlyIncreasing}
use Rattle.std.proofs.Math.ListN.{get_or-append}
use Rattle.std.proofs.Math.Seq.{get_or-append_seam}
use Rattle.std.proofs.lemmas.Bool.{and_parts, and_from, ltb-true, lt-ltb, eqb-true, cases_lt, ne_eqb}
use Rattle.std.proofs.lemmas.List.Elements.{All-nil, All-push}
use Rattle.text_terms.specs.Numbers.{number_of}
use Rattle.text_terms.proofs.NumberLaws.{spelling_of, number_of-decimal}
use Rattle.form_terms.specs.Forms.{Place, place, row, number_row, require}
use Rattle.form_terms.proofs.FormLaws.{Took, took_then, Grows, split, join, gave, given, met, meets, line_read, line_again, number_read, number_again, rows_read, rows_again}
use Rattle.title_terms.specs.declared.fault.TitleKind.{TitleKind}
use Rattle.title_terms.specs.declared.fault.TitleKind.TheVariants as kinds
use Rattle.title_terms.specs.Designs.{Design, is_above, are_enough, have_room}
use Rattle.title_terms.specs.TitleText.{marked_lines, kinds_of_rows, mark_form, marked_form}

-- ---- numbers that rise

above_by : (past : List ℕ) (segment : ℕ) (none : Bool) → eqb (length past) 0 ≡ none → (none || nat_lt (get_or past (length past - 1) 0) segment) ≡ true → 0 < length past → get_or past (length past - 1) 0 < segment
above_by past segment true is above some = absurd (omega (arith, eqb-true (length past) 0 is, some))
above_by past segment false is above some = ltb-true (get_or past (length past - 1) 0) segment above

pub above_is : (past : List ℕ) (segment : ℕ) → is_above past segment ≡ true → 0 < length past → get_or past (length past - 1) 0 < segment
above_is past segment above some = above_by past segment (eqb (length past) 0) refl above some

pub above_from : (past : List ℕ) (segment : ℕ) → (0 < length past → get_or past (length past - 1) 0 < segment) → is_above past segment ≡ true
above_from [] segment above = refl
above_from (first ∷ past) segment above =
    rw (ne_eqb (length (first ∷ past)) 0 (λ e. omega (arith, e))) (lt-ltb (get_or (first ∷ past) (length (first ∷ past) - 1) 0) segment (above (omega arith)))

pub rises_nil : IsStrictlyIncreasing []
rises_nil = λ k lt. absurd (omega arith)

pub rises_push : (past : List ℕ) (segment : ℕ) → IsStrictlyIncreasing past → is_above past segment ≡ true → IsStrictlyIncreasing (past ++ segment ∷ [])
rises_push past segment rises above =
    λ k lt.
    let long = length-append past (segment ∷ []) in
    elim (cases_lt (k + 1) (length past)) [
      | inl within ↦
          let low : get_or (past ++ segment ∷ []) k 0 ≡ get_or past k 0 = get_or-append past (segment ∷ []) 0 k (omega arith) in
          let high : get_or (past ++ segment ∷ []) (k + 1) 0 ≡ get_or past (k + 1) 0 = get_or-append past (segment ∷ []) 0 (k + 1) within in
          let earlier = rises k within in
          omega (arith, low, high, earlier)
      | inr last ↦
          let end : k + 1 ≡ length past = omega (arith, long, lt, last) in
          let low : get_or (past ++ segment ∷ []) k 0 ≡ get_or past k 0 = get_or-append past (segment ∷ []) 0 k (omega arith) in
          let high : get_or (past ++ segment ∷ []) (k + 1) 0 ≡ segment = ap (λ (i : ℕ). get_or (past ++ segment ∷ []) i 0) end ∙ get_or-append_seam past segment [] 0 in
          let before : k ≡ length past - 1 = omega (arith, end) in
          let at_end : get_or past k 0 ≡ get_or past (length past - 1) 0 = ap (λ (i : ℕ). get_or past i 0) before in
          let step = above_is past segment above (omega (arith, end)) in
          omega (arith, low, high, at_end, step)
    ]

-- in numbers that rise, each is above those in front of it
pub rises_above : (past : List ℕ) (segment : ℕ) (more : List ℕ) → IsStrictlyIncreasing (past ++ segment ∷ more) → is_above past segment ≡ true
rises_above past segment more rises =
    above_from past segment (λ some.
    let long = length-append past (segment ∷ more) in
    let end : length past - 1 + 1 ≡ length past = omega (arith, some) in
    let low : get_or (past ++ segment ∷ more) (length past - 1) 0 ≡ get_or past (length past - 1) 0 = get_or-append past (segment ∷ more) 0 (length past - 1) (omega (arith, some)) in
    let high : get_or (past ++ segment ∷ more) (length past - 1 + 1) 0 ≡ segment = ap (λ (i : ℕ). get_or (past ++ segment ∷ more) i 0) end ∙ get_or-append_seam past segment more 0 in
    let step = rises (length past - 1) (omega (arith, end, long, some)) in
    omega (arith, low, high, step))

-- ---- a marked segment

-- what marks keep in a list of so many segments
pub record AreMarks (segments : ℕ) (marks : List ℕ) : Type 0 where
  pub below : All (λ segment. segment < segments) marks
  pub rise : IsStrictlyIncreasing marks

row_read : (segments : ℕ) (past : List ℕ) (segment : ℕ) (at after : Place) → AreMarks segments past → mark_form segments past at ≡ Ok (segment, after) → Grows decimal (AreMarks segments) past segment at after
unfolding mark_form
row_read segments past segment at after keeps is =
    let r = split is in
    let l = line_read kinds_of_rows r.first in
    let t = split r.next in
    let m = met kinds.Rule t.first in
    let g = gave {K = TitleKind} t.next in
    let rules = and_parts (is_above past r.x) (nat_lt r.x segments) m.is in
    let took : Took at (decimal r.x ∷ []) r.between = subst (λ (line : List ℕ). Took at (line ∷ []) r.between) (spelling_of l.text r.x l.says) l.took in
    let here : Grows decimal (AreMarks segments) past r.x at after = record {
      took = subst (λ (p : Place). Took at (decimal r.x ∷ []) p) (m.same ∙ g.same) took;
      keeps = record { below = All-push (λ x. x < segments) past r.x keeps.below (ltb-true r.x segments rules.1); rise = rises_push past r.x keeps.rise rules.0 };
    } in
    subst (λ (x : ℕ). Grows decimal (AreMarks segments) past x at after) g.is here

row_again : (segments : ℕ) → segments ≤ 100000 → (past : List ℕ) (segment : ℕ) (more : List ℕ) → AreMarks segments (past ++ segment ∷ more) → (number : ℕ) (lines : List (List ℕ)) (tail : List ℕ)
    → mark_form segments past (place number (decimal segment ∷ lines) tail) ≡ Ok (segment, place (number + 1) lines tail)
unfolding mark_form
row_again segments few past segment more keeps number lines tail =
    let inside : length past < length (past ++ segment ∷ more) = omega (arith, length-append past (segment ∷ more)) in
    let below : segment < segments = subst (λ (x : ℕ). x < segments) (get_or-append_seam past segment more 0) (keeps.below (length past) 0 inside) in
    let rules : (is_above past segment && nat_lt segment segments) ≡ true = and_from (is_above past segment) (nat_lt segment segments) (rises_above past segment more keeps.rise) (lt-ltb segment segments below) in
    let small : segment < 2 ^ 128 = omega (arith, below, few) in
    join (row kinds_of_rows number_of) _ (line_again kinds_of_rows number_of (decimal segment) segment number lines tail (number_of-decimal segment small))
    (join {K = TitleKind} (require (is_above past segment && nat_lt segment segments) kinds.Rule) _ (meets kinds.Rule (place (number + 1) lines tail) rules) (given segment (place (number + 1) lines tail)))

-- ---- all of them

pub record AreMarksRead (d : Design) (segments : ℕ) (marks : List ℕ) (at after : Place) : Type 0 where
  pub enough : are_enough d.dimension d.bound (length marks) ≡ true
  pub room : have_room d.bits (length marks) ≡ true
  pub keeps : AreMarks segments marks
  pub took : Took at (marked_lines marks) after

pub no_marks : (segments : ℕ) → AreMarks segments []
no_marks segments = record { below = All-nil (λ segment. segment < segments); rise = rises_nil }

pub marks_read : (d : Design) (segments : ℕ) (at after : Place) (found : List ℕ) → marked_form d segments at ≡ Ok (found, after) → AreMarksRead d segments found at after
unfolding marked_form
marks_read d segments at after found is =
    let n = split is in
    let n_line = number_read kinds_of_rows kinds.Rule n.first in
    let rows = rows_read (mark_form segments) decimal (AreMarks segments) (row_read segments) [] n.x found n.between after (no_marks segments) n.next in
    let long : n.x ≡ length found = sym rows.long ∙ ap length (sym rows.are) in
    let rules = and_parts (are_enough d.dimension d.bound n.x) (have_room d.bits n.x) n_line.allows in
    let counted : Took at ((codes "marked " ++ decimal (length found)) ∷ []) n.between = subst (λ (count : ℕ). Took at ((codes "marked " ++ decimal count) ∷ []) n.between) long n_line.took in
    let spelled : Took n.between (map decimal found) after = subst (λ (marks : List ℕ). Took n.between (map decimal marks) after) (sym rows.are) rows.took in
    record {
      enough = subst (λ (count : ℕ). are_enough d.dimension d.bound count ≡ true) long rules.0;
      room = subst (λ (count : ℕ). have_room d.bits count ≡ true) long rules.1;
      keeps = rows.keeps;
      took = took_then counted spelled;
    }

pub marks_again : (d : Design) (segments : ℕ) (marks : List ℕ) (number : ℕ) (lines : List (List ℕ)) → segments ≤ 100000 → length marks < 2 ^ 128 → are_enough d.dimension d.bound (length marks) ≡ true → have_room d.bits (length marks) ≡ true → AreMarks segments marks
    → marked_form d segments (place number (marked_lines marks ++ lines) []) ≡ Ok (marks, place (number + 1 + length marks) lines [])
unfolding marked_form
marks_again d segments marks number lines few short enough room keeps =
    let rule : ℕ → Bool = λ n. are_enough d.dimension d.bound n && have_room d.bits n in
    join (number_row kinds_of_rows (codes "marked ") rule kinds.Rule) _ (number_again kinds_of_rows (codes "marked ") rule kinds.Rule (length marks) number (map decimal marks ++ lines) [] short (and_from (are_enough d.dimension d.bound (length marks)) (have_room d.bits (length marks)) enough room))
    (rows_again (mark_form segments) decimal (AreMarks segments) (row_again segments few) [] marks (number + 1) lines [] keeps)
