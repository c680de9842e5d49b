-- The first line at which a text is no register's, and what is wrong with it: told by what may stand there, beside the form
-- that reads a register. This project's own.
use Rattle.std.specs.Prelude.{◌≡◌, ℕ, ◌*◌, ◌^◌, min, nat_le, Bool, true, false, not, List, [], ◌∷◌, ◌++◌, length, codes, Option}
use Rattle.std.specs.List.{list_any}
use Rattle.std.specs.Option.{is_some, option_map, option_map_or}
use Rattle.std.specs.Str.{bytes_eq}
use Rattle.text_terms.specs.Names.{is_plain}
use Rattle.form_terms.specs.TextLines.{ended_lines, number_after}
use Rattle.form_terms.specs.FirstFaults.{AtLine, whole, cut, nothing, first_that_applies}
use Rattle.register_terms.specs.declared.edition.Edition.{Edition}
use Rattle.register_terms.specs.declared.edition.Edition.TheVariants.{Newer}
use Rattle.register_terms.specs.declared.refusal.TheConstants.{MOST_LICENSEES}
use Rattle.register_terms.specs.declared.fault.RegisterKind.{RegisterKind}
use Rattle.register_terms.specs.declared.fault.RegisterKind.TheVariants.{Ending, Header, BadM, BadK, BadMultiplier, BadShift, BadStatus, BadName, NameTaken, Full}
use Rattle.register_terms.specs.Enrolment.{Enrolment, IsValid}
use Rattle.register_terms.specs.Rules.{are_bits, is_dimension, is_multiplier, is_shift}
use Rattle.register_terms.specs.RegisterText.{IsTextOf, edition_in, licensee_in}

-- a text of some valid register begins with these lines
pub record Begins (lines : List (List ℕ)) : Type 0 where
  pub register : Enrolment
  pub text : List ℕ
  pub more : List (List ℕ)
  pub valid : IsValid register
  pub spelled : IsTextOf register text
  pub goes_on : ended_lines text ≡ lines ++ more

-- ---- tests of what stands at a line

abbrev pub is_cut : AtLine → Bool
is_cut (whole text) = false
is_cut cut = true
is_cut nothing = false

-- a whole line stands there of which this is so
abbrev pub says : (List ℕ → Bool) → AtLine → Bool
says test (whole text) = test text
says test cut = false
says test nothing = false

abbrev pub breaks_rule : (ℕ → Bool) → Option ℕ → Bool
breaks_rule allowed number = option_map_or (λ n. not (allowed n)) number false

-- the number behind a word, on a line that was found to have one
abbrev pub number_on : List ℕ → List ℕ → ℕ
number_on word text = option_map_or (λ n. n) (number_after word text) 0

abbrev pub edition_on : List ℕ → Edition
edition_on text = option_map_or (λ edition. edition) (edition_in text) Newer

-- the name on a licensee's line
abbrev pub name_in : Edition → List ℕ → Option (List ℕ)
name_in edition text = option_map (λ x. x.name) (licensee_in edition text)

abbrev pub names_someone : Edition → (List ℕ → Bool) → List ℕ → Bool
names_someone edition test text = option_map_or test (name_in edition text) false

-- ---- the tables: each kind with when it applies

-- a line of the header that says a number
abbrev pub number_table : List ℕ → (ℕ → Bool) → RegisterKind → AtLine → List (Bool × RegisterKind)
number_table word allowed broken at =
    (is_cut at, Ending)
    ∷ (not (says (λ text. is_some (number_after word text)) at), Header)
    ∷ (says (λ text. breaks_rule allowed (number_after word text)) at, broken)
    ∷ []

-- a licensee's line, behind those of earlier licensees
abbrev pub licensee_table : Edition → ℕ → List (List ℕ) → AtLine → List (Bool × RegisterKind)
licensee_table edition room earlier at =
    (is_cut at, Ending)
    ∷ (says (λ text. not (is_some (licensee_in edition text))) at, BadStatus)
    ∷ (says (names_someone edition (λ name. not (is_plain name))) at, BadName)
    ∷ (says (names_someone edition (λ name. list_any (names_someone edition (bytes_eq name)) earlier)) at, NameTaken)
    ∷ (says (λ text. nat_le room (length earlier)) at, Full)
    ∷ []

-- what can be wrong with a line behind these
abbrev pub table_of : List (List ℕ) → AtLine → List (Bool × RegisterKind)
table_of [] at = (is_cut at, Ending) ∷ (not (says (λ text. is_some (edition_in text)) at), Header) ∷ []
table_of (edition ∷ []) at = number_table (codes "m ") are_bits BadM at
table_of (edition ∷ m ∷ []) at = number_table (codes "k ") is_dimension BadK at
table_of (edition ∷ m ∷ k ∷ []) at =
    number_table (codes "a ") (is_multiplier (number_on (codes "m ") m) (number_on (codes "k ") k)) BadMultiplier at
table_of (edition ∷ m ∷ k ∷ a ∷ []) at =
    number_table (codes "b ") (is_shift (number_on (codes "m ") m) (number_on (codes "k ") k)) BadShift at
table_of (edition ∷ m ∷ k ∷ a ∷ b ∷ earlier) at =
    licensee_table (edition_on edition) (min (2 ^ (number_on (codes "m ") m * number_on (codes "k ") k)) MOST_LICENSEES) earlier at

-- the first thing that is wrong with it
abbrev pub wrong_with : List (List ℕ) → AtLine → Option RegisterKind
wrong_with past at = first_that_applies (table_of past at)
