-- The lines of the licensees: what is written is read, and what is read was written.
use Rattle.std.proofs.Common.{◌≡◌, ℕ, ◌+◌, ◌<◌, Bool, true, false, codes, List, [], ◌∷◌, ◌++◌, length, get_or, Option, Some, None, Ok, refl, sym, ap, ◌∙◌, subst, length-append, arith}
use Rattle.std.specs.List.{All}
use Rattle.std.specs.Option.{option_map, option_or}
use Rattle.std.proofs.Math.ListN.{get_or-append}
use Rattle.std.proofs.Math.Seq.{get_or-append_seam}
use Rattle.std.proofs.lemmas.List.{map-append}
use Rattle.std.proofs.lemmas.List.Elements.{All-push}
use Rattle.text_terms.specs.Names.{is_plain}
use Rattle.form_terms.specs.TextLines.{after_word}
use Rattle.form_terms.specs.Forms.{Place, place, row, demand}
use Rattle.form_terms.proofs.LineLaws.{after_word-is, after_word-line}
use Rattle.form_terms.proofs.FormLaws.{Took, Grows, split, join, gave, given, line_read, line_again, demanded, unhindered}
use Rattle.register_terms.specs.declared.edition.Edition.{Edition}
use Rattle.register_terms.specs.declared.edition.Edition.TheVariants.{Newer, Older}
use Rattle.register_terms.specs.Enrolment.{Licensee, Enrolment, IsValid, names_of}
use Rattle.register_terms.specs.Rules.{with_licensees, refusal_of}
use Rattle.register_terms.specs.RegisterText.{licensee_line, licensee_in, in_state, later, licensee_row}
use Rattle.register_terms.proofs.Serials.{differs_absent}
use Rattle.register_terms.proofs.Growing.{IsWelcome, is_welcome, not_refused, with_licensee-valid}

-- ---- one line

-- what the line of an edition can say
abbrev pub IsSaid : Edition → Licensee → Type 0
IsSaid Newer x = Unit {0}
IsSaid Older x = x.active ≡ true

state_by : (held left : Option (List ℕ)) (x : Licensee) → option_or (option_map (in_state true) held) (option_map (in_state false) left) ≡ Some x → (text : List ℕ)
    → ((name : List ℕ) → held ≡ Some name → text ≡ codes "active " ++ name) → ((name : List ℕ) → left ≡ Some name → text ≡ codes "withdrawn " ++ name) → text ≡ licensee_line Newer x
state_by (Some name) left x e text is_held is_left = subst (λ (y : Licensee). text ≡ licensee_line Newer y) (one (in_state true name) x e) (is_held name refl)
  where
    one : (y x : Licensee) → (let o : Option Licensee = Some y in o) ≡ Some x → y ≡ x
    one y x e = cc
state_by None (Some name) x e text is_held is_left = subst (λ (y : Licensee). text ≡ licensee_line Newer y) (one (in_state false name) x e) (is_left name refl)
  where
    one : (y x : Licensee) → (let o : Option Licensee = Some y in o) ≡ Some x → y ≡ x
    one y x e = cc
state_by None None x e text is_held is_left = absurd cc

pub record Said (edition : Edition) (text : List ℕ) (x : Licensee) : Type 0 where
  pub line : text ≡ licensee_line edition x
  pub able : IsSaid edition x

some_is : {A : Type 0} (x y : A) → (let o : Option A = Some x in o) ≡ Some y → x ≡ y
some_is x y e = cc

pub licensee_is : (edition : Edition) (text : List ℕ) (x : Licensee) → licensee_in edition text ≡ Some x → Said edition text x
licensee_is Newer text x e = record {
  line = state_by (after_word (codes "active ") text) (after_word (codes "withdrawn ") text) x e text (λ name is. after_word-is (codes "active ") text name is) (λ name is. after_word-is (codes "withdrawn ") text name is);
  able = tt;
}
licensee_is Older text x e =
    let same : in_state true text ≡ x = some_is (in_state true text) x e in
    record { line = ap (λ (y : Licensee). y.name) same; able = sym (ap (λ (y : Licensee). y.active) same) }

licensee_by : (active : Bool) (name : List ℕ) → licensee_in Newer (licensee_line Newer (in_state active name)) ≡ Some (in_state active name)
licensee_by true name = ap (λ (held : Option (List ℕ)). option_or (option_map (in_state true) held) (option_map (in_state false) (after_word (codes "withdrawn ") (codes "active " ++ name)))) (after_word-line (codes "active ") name)
licensee_by false name = ap (λ (left : Option (List ℕ)). option_map (in_state false) left) (after_word-line (codes "withdrawn ") name)

pub licensee_again : (edition : Edition) (x : Licensee) → IsSaid edition x → licensee_in edition (licensee_line edition x) ≡ Some x
licensee_again Newer x able = licensee_by x.active x.name
licensee_again Older x able = ap (λ (active : Bool). Some (in_state active x.name)) (sym able)

-- ---- a row behind others

-- what rows keep: the register with the licensees so far is valid, and the edition can say each
pub record IsSoFar (edition : Edition) (e : Enrolment) (past : List Licensee) : Type 0 where
  pub valid : IsValid (with_licensees e past)
  pub able : All (IsSaid edition) past

pub row_read : (edition : Edition) (e : Enrolment) (past : List Licensee) (x : Licensee) (at after : Place) → IsSoFar edition e past → licensee_row edition e past at ≡ Ok (x, after) → Grows (licensee_line edition) (IsSoFar edition e) past x at after
unfolding licensee_row
row_read edition e past x at after so_far is =
    let s = split is in
    let l = line_read later s.first in
    let told = licensee_is edition l.text s.x l.says in
    let d = split s.next in
    let free = demanded (refusal_of (with_licensees e past) s.x.name) d.first in
    let g = gave d.next in
    let welcome = is_welcome (with_licensees e past) s.x.name free.is in
    let took : Took at (licensee_line edition s.x ∷ []) s.between = subst (λ (t : List ℕ). Took at (t ∷ []) s.between) told.line l.took in
    let there : Took at (licensee_line edition s.x ∷ []) after = subst (λ (p : Place). Took at (licensee_line edition s.x ∷ []) p) (free.same ∙ g.same) took in
    let here : Grows (licensee_line edition) (IsSoFar edition e) past s.x at after = record {
      took = there;
      keeps = record { valid = with_licensee-valid (with_licensees e past) s.x so_far.valid welcome; able = All-push (IsSaid edition) past s.x so_far.able told.able };
    } in
    subst (λ (y : Licensee). Grows (licensee_line edition) (IsSoFar edition e) past y at after) g.is here

-- the next licensee of a valid register may be enrolled
pub next_is_welcome : (e : Enrolment) (past : List Licensee) (x : Licensee) (more : List Licensee) → IsValid (with_licensees e (past ++ x ∷ more)) → IsWelcome (with_licensees e past) x.name
next_is_welcome e past x more valid =
    let names : names_of (past ++ x ∷ more) ≡ names_of past ++ x.name ∷ names_of more = map-append (λ (y : Licensee). y.name) past (x ∷ more) in
    let at : ℕ = length (names_of past) in
    let here : get_or (names_of (past ++ x ∷ more)) at [] ≡ x.name = ap (λ (ns : List (List ℕ)). get_or ns at []) names ∙ get_or-append_seam (names_of past) x.name (names_of more) [] in
    let inside : at < length (names_of (past ++ x ∷ more)) = rw names (omega (arith, length-append (names_of past) (x.name ∷ names_of more))) in
    record {
      plain = subst (λ (name : List ℕ). is_plain name ≡ true) here (valid.plain at [] inside);
      new = differs_absent (names_of past) x.name (λ k lt same. valid.distinct k at [] lt inside (ap (λ (ns : List (List ℕ)). get_or ns k []) names ∙ get_or-append (names_of past) (x.name ∷ names_of more) [] k lt ∙ same ∙ sym here));
      room = omega (arith, valid.room, length-append past (x ∷ more));
    }

pub row_again : (edition : Edition) (e : Enrolment) (past : List Licensee) (x : Licensee) (more : List Licensee) → IsSoFar edition e (past ++ x ∷ more) → (number : ℕ) (lines : List (List ℕ)) (tail : List ℕ)
    → licensee_row edition e past (place number (licensee_line edition x ∷ lines) tail) ≡ Ok (x, place (number + 1) lines tail)
unfolding licensee_row
row_again edition e past x more so_far number lines tail =
    let inside : length past < length (past ++ x ∷ more) = omega (arith, length-append past (x ∷ more)) in
    let able : IsSaid edition x = subst (IsSaid edition) (get_or-append_seam past x more x) (so_far.able (length past) x inside) in
    let none = not_refused (with_licensees e past) x.name (next_is_welcome e past x more so_far.valid) in
    join (row later (licensee_in edition)) _ (line_again later (licensee_in edition) (licensee_line edition x) x number lines tail (licensee_again edition x able))
    (join (demand (refusal_of (with_licensees e past) x.name)) _ (unhindered (refusal_of (with_licensees e past) x.name) (place (number + 1) lines tail) none) (given x (place (number + 1) lines tail)))
