-- A coalition that was worked out by hand explains a word.
use Rattle.std.proofs.Common.{◌≡◌, inl, inr, ℕ, suc, ◌<◌, ◌==◌, ◌||◌, Bool, true, false, List, [], ◌∷◌, length, Option, Ok, None, Some, refl, ◌∙◌, arith}
use Rattle.std.specs.Prelude.{Contains, codes}
use Rattle.std.specs.Fmt.{digits}
use Rattle.std.proofs.lemmas.Bool.{cases_lt, eqb-true}
use Rattle.std.proofs.lemmas.List.Elements.{All-from_recursion}
use Rattle.std.proofs.lemmas.List.{get_or_past}
use Rattle.gf_terms.specs.Arithmetic.{carryless, reduced, reduction, product, power}
use Rattle.gf_terms.proofs.Basis.{each_below, at_below}
use Rattle.code_terms.specs.Symbols.{symbol_of}
use Rattle.code_terms.specs.Words.{slot_at, three_colluders}
use Rattle.desk_terms.specs.Examples.{first_licensees}
use Rattle.desk_terms.specs.Roll.{Roll, IsRoll, message_at, roll_of}
use Rattle.desk_terms.proofs.Rolls.{roll_of-is_roll}
use Rattle.register_terms.specs.Enrolment.{IsValid}
use Rattle.form_terms.specs.Forms.{before, followed, give, demand, next_line, said, row, number_row, require, rows_after, lines_left, the_end}
use Rattle.register_terms.specs.RegisterText.{header_form, licensee_row, licensees_form, register_form, register_of}
use Rattle.register_terms.proofs.Texts.{read_was_written}
use Rattle.coalition_terms.specs.Distance.{common_places}
use Rattle.coalition_terms.specs.Coalition.{IsCoalition, Explains}

unfoldable some_passes : (ℕ → Bool) → List ℕ → Bool
some_passes f [] = false
some_passes f (j ∷ members) = f j || some_passes f members

who_passes : (f : ℕ → Bool) (members : List ℕ) → some_passes f members ≡ true → (j : ℕ) × Contains members j × (f j ≡ true)
unfolding some_passes
who_passes f [] is = cc
who_passes f (j ∷ members) is = first (f j) refl is (who_passes f members)
  where
    first : (b : Bool) → f j ≡ b → (b || some_passes f members) ≡ true → (some_passes f members ≡ true → (h : ℕ) × Contains members h × (f h ≡ true)) → (h : ℕ) × Contains (j ∷ members) h × (f h ≡ true)
    first true here some behind = (j, (0, omega arith, refl), here)
    first false here some behind = let rest = behind some in (rest.0, (suc rest.1.0, omega (arith, rest.1.1), rest.1.2), rest.2)

-- whether the symbol at a place is that of a member
unfoldable slot_explained : Roll → List ℕ → ℕ → Option ℕ → Bool
slot_explained roll members i None = true
slot_explained roll members i (Some v) = some_passes (λ j. symbol_of roll.bits roll.dimension (message_at roll j) i == v) members

slot_by : (roll : Roll) (members : List ℕ) (i v : ℕ) (slot : Option ℕ) → slot ≡ Some v → slot_explained roll members i slot ≡ true
    → (j : ℕ) × Contains members j × (symbol_of roll.bits roll.dimension (message_at roll j) i ≡ v)
unfolding slot_explained
slot_by roll members i v None some is = cc
slot_by roll members i v (Some w) some is =
    let same : w ≡ v = cc in
    let found = who_passes (λ j. symbol_of roll.bits roll.dimension (message_at roll j) i == w) members is in
    (found.0, found.1, eqb-true (symbol_of roll.bits roll.dimension (message_at roll found.0) i) w found.2 ∙ same)

explained_by : (roll : Roll) (members : List ℕ) (word : List (Option ℕ)) → each_below (length word) (λ i. slot_explained roll members i (slot_at word i)) ≡ true → Explains roll members word
explained_by roll members word all i v some =
    elim (cases_lt i (length word)) [
      | inl within ↦ slot_by roll members i v (slot_at word i) some (at_below (length word) (λ i. slot_explained roll members i (slot_at word i)) all i within)
      | inr past ↦ let none : slot_at word i ≡ None = get_or_past word i None past in cc
    ]

pub colluders_enrolled : IsCoalition (roll_of (first_licensees 20)) 3 (0 ∷ 1 ∷ 16 ∷ [])
colluders_enrolled = record {
  enrolled = All-from_recursion (λ j. j < 20) (0 ∷ 1 ∷ 16 ∷ []) (omega arith, (omega arith, (omega arith, tt)));
  few = omega arith;
}

colluders_tested : each_below 10 (λ i. slot_explained (roll_of (first_licensees 20)) (0 ∷ 1 ∷ 16 ∷ []) i (slot_at three_colluders i)) ≡ true
unfolding each_below slot_explained some_passes symbol_of power product reduction reduced carryless
colluders_tested = refl

pub colluders_explain : Explains (roll_of (first_licensees 20)) (0 ∷ 1 ∷ 16 ∷ []) three_colluders
colluders_explain = explained_by (roll_of (first_licensees 20)) (0 ∷ 1 ∷ 16 ∷ []) three_colluders colluders_tested

-- their register, from its text
licensees_read : register_of (codes "register 1\nm 4\nk 2\na 1\nb 0\nlic0\nlic1\nlic2\nlic3\nlic4\nlic5\nlic6\nlic7\nlic8\nlic9\nlic10\nlic11\nlic12\nlic13\nlic14\nlic15\nlic16\nlic17\nlic18\nlic19\n") ≡ Ok (first_licensees 20)
unfolding before followed give demand next_line said row number_row require rows_after lines_left the_end header_form licensee_row licensees_form register_form register_of digits
licensees_read = refl

licensees_valid : IsValid (first_licensees 20)
licensees_valid = (read_was_written (codes "register 1\nm 4\nk 2\na 1\nb 0\nlic0\nlic1\nlic2\nlic3\nlic4\nlic5\nlic6\nlic7\nlic8\nlic9\nlic10\nlic11\nlic12\nlic13\nlic14\nlic15\nlic16\nlic17\nlic18\nlic19\n") (first_licensees 20) licensees_read).valid

pub licensees_kept : IsRoll (roll_of (first_licensees 20))
licensees_kept = roll_of-is_roll (first_licensees 20) licensees_valid

pub one_in_common : common_places 4 2 0 16 16 ≡ 0 ∷ []
unfolding symbol_of power product reduction reduced carryless
one_in_common = refl
