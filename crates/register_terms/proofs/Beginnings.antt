-- What begins a register's text: the lines that every text of a valid register has, and the numbers on them.
use Rattle.std.proofs.Common.{◌≡◌, ℕ, ◌*◌, ◌%◌, ◌^◌, ◌<◌, ◌≤◌, true, eqb, List, [], ◌++◌, Option, Some, refl, sym, ap, ◌∙◌, subst, append_assoc, append-nil, arith}
use Rattle.std.specs.Prelude.{nat_le, nat_lt}
use Rattle.std.specs.List.{All, flat_map}
use Rattle.std.specs.Fmt.{decimal}
use Rattle.std.proofs.Math.Pow.{pow_mono}
use Rattle.std.proofs.Math.Nat.{mul-le-mul}
use Rattle.std.proofs.lemmas.Bool.{and_parts, and_from, lt-ltb, leb-true}
use Rattle.form_terms.specs.TextLines.{line, ended_lines, rest_of, number_after}
use Rattle.form_terms.proofs.LineLaws.{lines_again, no_rest, number_after-line}
use Rattle.register_terms.specs.declared.edition.Edition.{Edition}
use Rattle.register_terms.specs.declared.edition.Edition.TheVariants.{Newer, Older}
use Rattle.register_terms.specs.Enrolment.{Enrolment, IsValid, message_count}
use Rattle.register_terms.specs.Rules.{are_bits, is_dimension, empty_register}
use Rattle.register_terms.specs.RegisterText.{header_lines, register_lines, register_text, older_text, IsTextOf, newer, older}
use Rattle.register_terms.specs.RegisterFaults.{Begins}
use Rattle.register_terms.proofs.HeaderLines.{IsRule, empty_valid}
use Rattle.register_terms.proofs.LicenseeLines.{IsSaid}
use Rattle.register_terms.proofs.Texts.{all_nil, text_by, register_one_line}

-- ---- the lines of a text

pub record HasLines (e : Enrolment) (bytes : List ℕ) : Type 0 where
  pub edition : Edition
  pub able : All (IsSaid edition) e.licensees
  pub lines : ended_lines bytes ≡ register_lines edition e
  pub nothing_behind : rest_of bytes ≡ []

pub lines_of_text : (e : Enrolment) (bytes : List ℕ) → IsValid e → IsTextOf e bytes → HasLines e bytes
unfolding register_text older_text
lines_of_text e bytes valid (newer is) = record {
  edition = Newer;
  able = λ i d lt. tt;
  lines = ap ended_lines is ∙ lines_again (register_lines Newer e) (register_one_line Newer e valid);
  nothing_behind = ap rest_of is ∙ no_rest (register_lines Newer e) (register_one_line Newer e valid);
}
lines_of_text e bytes valid (older able is) = record {
  edition = Older;
  able = able;
  lines = ap ended_lines is ∙ lines_again (register_lines Older e) (register_one_line Older e valid);
  nothing_behind = ap rest_of is ∙ no_rest (register_lines Older e) (register_one_line Older e valid);
}

-- ---- beginnings

pub begins_shorter : (front back : List (List ℕ)) → Begins (front ++ back) → Begins front
begins_shorter front back begins = record {
  register = begins.register;
  text = begins.text;
  more = back ++ begins.more;
  valid = begins.valid;
  spelled = begins.spelled;
  goes_on = begins.goes_on ∙ append_assoc front back begins.more;
}

pub begins_whole : (edition : Edition) (e : Enrolment) → IsValid e → All (IsSaid edition) e.licensees → Begins (register_lines edition e)
begins_whole edition e valid able = record {
  register = e;
  text = flat_map line (register_lines edition e);
  more = [];
  valid = valid;
  spelled = text_by edition e (flat_map line (register_lines edition e)) able refl;
  goes_on = lines_again (register_lines edition e) (register_one_line edition e valid) ∙ sym (append-nil (register_lines edition e));
}

pub begins_header : (edition : Edition) (m k a b : ℕ) → IsRule m k a b → Begins (header_lines edition (empty_register m k a b))
begins_header edition m k a b rule =
    subst Begins (append-nil (header_lines edition (empty_register m k a b))) (begins_whole edition (empty_register m k a b) (empty_valid m k a b rule) (all_nil (IsSaid edition)))

-- the least numbers that go with the first ones
pub least_rule : (m k : ℕ) → are_bits m ≡ true → is_dimension k ≡ true → IsRule m k 1 0
least_rule m k bits dimension =
    let m_least = leb-true 4 m (and_parts (nat_le 4 m) (nat_le m 8) bits).0 in
    let k_least = leb-true 2 k (and_parts (nat_le 2 k) (nat_le k 13) dimension).0 in
    let many : 2 ^ 8 ≤ 2 ^ (m * k) = pow_mono (mul-le-mul m_least k_least) in
    record {
      bits = bits;
      dimension = dimension;
      multiplier = and_from (eqb (1 % 2) 1) (nat_lt 1 (2 ^ (m * k))) refl (lt-ltb 1 (2 ^ (m * k)) (omega (arith, many)));
      shift = lt-ltb 0 (2 ^ (m * k)) (omega (arith, many));
    }

-- ---- what follows of a beginning

pub record Header (lines : List (List ℕ)) : Type 0 where
  pub edition : Edition
  pub register : Enrolment
  pub more : List (List ℕ)
  pub valid : IsValid register
  pub able : All (IsSaid edition) register.licensees
  pub are : register_lines edition register ≡ lines ++ more

pub header_of : (lines : List (List ℕ)) → Begins lines → Header lines
header_of lines begins =
    let has = lines_of_text begins.register begins.text begins.valid begins.spelled in
    record { edition = has.edition; register = begins.register; more = begins.more; valid = begins.valid; able = has.able; are = sym has.lines ∙ begins.goes_on }

pub same_number : (word : List ℕ) (x y : ℕ) → x < 2 ^ 128 → y < 2 ^ 128 → word ++ decimal x ≡ word ++ decimal y → x ≡ y
same_number word x y x_small y_small same =
    some_is x y (sym (number_after-line word x x_small) ∙ ap (λ (text : List ℕ). number_after word text) same ∙ number_after-line word y y_small)
  where
    some_is : (x y : ℕ) → (let o : Option ℕ = Some x in o) ≡ Some y → x ≡ y
    some_is x y is = cc

pub record IsSmall (e : Enrolment) : Type 0 where
  pub bits : e.bits < 2 ^ 128
  pub dimension : e.dimension < 2 ^ 128
  pub multiplier : e.multiplier < 2 ^ 128
  pub shift : e.shift < 2 ^ 128

pub small : (e : Enrolment) → IsValid e → IsSmall e
small e valid =
    let few : message_count e ≤ 2 ^ 104 = pow_mono (mul-le-mul valid.bits_high valid.dimension_high) in
    record { bits = omega (arith, valid.bits_high); dimension = omega (arith, valid.dimension_high); multiplier = omega (arith, few, valid.multiplier_below); shift = omega (arith, few, valid.shift_below) }
