-- The first five lines: what is written is read, and what is read was written.
use Rattle.std.proofs.Common.{◌≡◌, ℕ, ◌*◌, ◌%◌, ◌^◌, ◌≤◌, Bool, true, false, cond, not, eqb, codes, List, [], ◌∷◌, ◌++◌, Some, None, Ok, refl, subst, arith}
use Rattle.std.specs.Prelude.{nat_le, nat_lt}
use Rattle.std.specs.Str.{bytes_eq}
use Rattle.std.specs.Fmt.{decimal}
use Rattle.std.proofs.Math.Pow.{pow_mono}
use Rattle.std.proofs.Math.Nat.{mul-le-mul}
use Rattle.std.proofs.lemmas.Bool.{and_parts, and_from, eqb-true, eq-eqb, ltb-true, lt-ltb, leb-true, le-leb}
use Rattle.form_terms.specs.Forms.{Place, place, row, number_row}
use Rattle.form_terms.proofs.LineLaws.{same_bytes}
use Rattle.form_terms.proofs.FormLaws.{Took, took_then, split, join, gave, given, line_read, line_again, number_read, number_again}
use Rattle.register_terms.specs.declared.refusal.RegisterError.TheVariants as rules
use Rattle.register_terms.specs.declared.fault.RegisterKind.TheVariants.{BadM, BadK, BadMultiplier, BadShift}
use Rattle.register_terms.specs.declared.edition.Edition.{Edition}
use Rattle.register_terms.specs.declared.edition.Edition.TheVariants.{Newer, Older}
use Rattle.register_terms.specs.Enrolment.{Enrolment, IsValid, message_count}
use Rattle.register_terms.specs.Rules.{are_bits, is_dimension, is_multiplier, is_shift, broken_rule, empty_register, with_licensees}
use Rattle.register_terms.specs.RegisterText.{edition_line, edition_in, header, header_lines, header_form}

-- ---- the rules

-- what the numbers of a register keep
pub record IsRule (m k a b : ℕ) : Type 0 where
  pub bits : are_bits m ≡ true
  pub dimension : is_dimension k ≡ true
  pub multiplier : is_multiplier m k a ≡ true
  pub shift : is_shift m k b ≡ true

pub empty_valid : (m k a b : ℕ) → IsRule m k a b → IsValid (empty_register m k a b)
empty_valid m k a b rule =
    let bits = and_parts (nat_le 4 m) (nat_le m 8) rule.bits in
    let dimension = and_parts (nat_le 2 k) (nat_le k 13) rule.dimension in
    let multiplier = and_parts (eqb (a % 2) 1) (nat_lt a (2 ^ (m * k))) rule.multiplier in
    record {
      bits_low = leb-true 4 m bits.0;
      bits_high = leb-true m 8 bits.1;
      dimension_low = leb-true 2 k dimension.0;
      dimension_high = leb-true k 13 dimension.1;
      odd = eqb-true (a % 2) 1 multiplier.0;
      multiplier_below = ltb-true a (2 ^ (m * k)) multiplier.1;
      shift_below = ltb-true b (2 ^ (m * k)) rule.shift;
      plain = λ i d lt. absurd (omega arith);
      distinct = λ i j d lt past. absurd (omega arith);
      room = omega arith;
    }

pub is_rule : (e : Enrolment) → IsValid e → IsRule e.bits e.dimension e.multiplier e.shift
is_rule e valid = record {
  bits = and_from (nat_le 4 e.bits) (nat_le e.bits 8) (le-leb 4 e.bits valid.bits_low) (le-leb e.bits 8 valid.bits_high);
  dimension = and_from (nat_le 2 e.dimension) (nat_le e.dimension 13) (le-leb 2 e.dimension valid.dimension_low) (le-leb e.dimension 13 valid.dimension_high);
  multiplier = and_from (eqb (e.multiplier % 2) 1) (nat_lt e.multiplier (message_count e)) (eq-eqb (e.multiplier % 2) 1 valid.odd) (lt-ltb e.multiplier (message_count e) valid.multiplier_below);
  shift = lt-ltb e.shift (message_count e) valid.shift_below;
}

rule_by : (m k a b : ℕ) (bits dimension multiplier shift : Bool) → are_bits m ≡ bits → is_dimension k ≡ dimension → is_multiplier m k a ≡ multiplier → is_shift m k b ≡ shift
    → cond (not bits) (Some rules.BadM) (cond (not dimension) (Some rules.BadK) (cond (not multiplier) (Some rules.BadMultiplier) (cond (not shift) (Some rules.BadShift) None))) ≡ None → IsRule m k a b
rule_by m k a b true true true true bits dimension multiplier shift none = record { bits = bits; dimension = dimension; multiplier = multiplier; shift = shift }
rule_by m k a b false dimension multiplier shift is is_too also last none = absurd cc
rule_by m k a b true false multiplier shift is is_too also last none = absurd cc
rule_by m k a b true true false shift is is_too also last none = absurd cc
rule_by m k a b true true true false is is_too also last none = absurd cc

-- what four numbers keep that break no rule
pub rule_of : (m k a b : ℕ) → broken_rule m k a b ≡ None → IsRule m k a b
rule_of m k a b none = rule_by m k a b (are_bits m) (is_dimension k) (is_multiplier m k a) (is_shift m k b) refl refl refl refl none

-- ---- the line of the edition

edition_by : (new old : Bool) (edition : Edition) → cond new (Some Newer) (cond old (Some Older) None) ≡ Some edition → (text : List ℕ) → (new ≡ true → text ≡ edition_line Newer) → (old ≡ true → text ≡ edition_line Older) → text ≡ edition_line edition
edition_by true old Newer e text is_new is_old = is_new refl
edition_by true old Older e text is_new is_old = absurd cc
edition_by false true Newer e text is_new is_old = absurd cc
edition_by false true Older e text is_new is_old = is_old refl
edition_by false false edition e text is_new is_old = absurd cc

pub edition_is : (text : List ℕ) (edition : Edition) → edition_in text ≡ Some edition → text ≡ edition_line edition
edition_is text edition e =
    edition_by (bytes_eq text (codes "register 2")) (bytes_eq text (codes "register 1")) edition e text (same_bytes text (codes "register 2")) (same_bytes text (codes "register 1"))

pub edition_again : (edition : Edition) → edition_in (edition_line edition) ≡ Some edition
edition_again Newer = refl
edition_again Older = refl

-- ---- the five lines

pub record IsHeader (edition : Edition) (e : Enrolment) (at after : Place) : Type 0 where
  pub valid : IsValid e
  pub nobody : e.licensees ≡ []
  pub took : Took at (header_lines edition e) after

pub header_read : (at after : Place) (found : Edition × Enrolment) → header_form at ≡ Ok (found, after) → IsHeader found.0 found.1 at after
unfolding header_form
header_read at after found is =
    let edition = split is in
    let edition_at = line_read header edition.first in
    let m = split edition.next in
    let m_line = number_read header BadM m.first in
    let k = split m.next in
    let k_line = number_read header BadK k.first in
    let a = split k.next in
    let a_line = number_read header BadMultiplier a.first in
    let b = split a.next in
    let b_line = number_read header BadShift b.first in
    let g = gave b.next in
    let first : Took at (edition_line edition.x ∷ []) edition.between = subst (λ (t : List ℕ). Took at (t ∷ []) edition.between) (edition_is edition_at.text edition.x edition_at.says) edition_at.took in
    let made : Enrolment = empty_register m.x k.x a.x b.x in
    let took : Took at (header_lines edition.x made) b.between = took_then first (took_then m_line.took (took_then k_line.took (took_then a_line.took b_line.took))) in
    let valid : IsValid made = empty_valid m.x k.x a.x b.x (record { bits = m_line.allows; dimension = k_line.allows; multiplier = a_line.allows; shift = b_line.allows }) in
    let here : IsHeader edition.x made at after = record { valid = valid; nobody = refl; took = subst (λ (p : Place). Took at (header_lines edition.x made) p) g.same took } in
    subst (λ (f : Edition × Enrolment). IsHeader f.0 f.1 at after) g.is here

pub header_again : (edition : Edition) (e : Enrolment) (lines : List (List ℕ)) → IsValid e → header_form (place 0 (header_lines edition e ++ lines) []) ≡ Ok ((edition, with_licensees e []), place 5 lines [])
unfolding header_form
header_again edition e lines valid =
    let rule = is_rule e valid in
    let few : message_count e ≤ 2 ^ 104 = pow_mono (mul-le-mul valid.bits_high valid.dimension_high) in
    let a_below = valid.multiplier_below in
    let b_below = valid.shift_below in
    let m_high = valid.bits_high in
    let k_high = valid.dimension_high in
    let b_lines : List (List ℕ) = (codes "b " ++ decimal e.shift) ∷ lines in
    let a_lines : List (List ℕ) = (codes "a " ++ decimal e.multiplier) ∷ b_lines in
    let k_lines : List (List ℕ) = (codes "k " ++ decimal e.dimension) ∷ a_lines in
    let m_lines : List (List ℕ) = (codes "m " ++ decimal e.bits) ∷ k_lines in
    join (row header edition_in) _ (line_again header edition_in (edition_line edition) edition 0 m_lines [] (edition_again edition))
    (join (number_row header (codes "m ") are_bits BadM) _ (number_again header (codes "m ") are_bits BadM e.bits 1 k_lines [] (omega arith) rule.bits)
    (join (number_row header (codes "k ") is_dimension BadK) _ (number_again header (codes "k ") is_dimension BadK e.dimension 2 a_lines [] (omega arith) rule.dimension)
    (join (number_row header (codes "a ") (is_multiplier e.bits e.dimension) BadMultiplier) _ (number_again header (codes "a ") (is_multiplier e.bits e.dimension) BadMultiplier e.multiplier 3 b_lines [] (omega arith) rule.multiplier)
    (join (number_row header (codes "b ") (is_shift e.bits e.dimension) BadShift) _ (number_again header (codes "b ") (is_shift e.bits e.dimension) BadShift e.shift 4 lines [] (omega arith) rule.shift)
    (given (edition, with_licensees e []) (place 5 lines []))))))
