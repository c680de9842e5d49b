-- A number has one spelling: `number_of` and `decimal` undo each other.
use Rattle.std.proofs.Common.{◌≡◌, ◌∙◌, sym, ap, ℕ, zero, suc, ◌+◌, ◌*◌, ◌/◌, ◌%◌, ◌^◌, ◌<◌, ◌≤◌, Bool, true, false, ◌&&◌, ◌||◌, not, ◌==◌, List, [], ◌∷◌, ◌++◌, length, length-append, get_or, Some, None, append_assoc, append-nil, arith, refl}
use Rattle.std.specs.Prelude.{if◌then◌else◌, nat_lt}
use Rattle.std.specs.Char.{digit_value}
use Rattle.std.specs.Fmt.{decimal}
use Rattle.std.specs.Str.{all_ascii_digits}
use Rattle.std.specs.Str.Parse.{AllDigits, digits_value, digits_value_after}
use Rattle.std.proofs.Math.ListN.{get_or-append}
use Rattle.std.proofs.lemmas.Bool.{leb-true, le-leb, eqb-true, eq-eqb, ne_eqb}
use Rattle.std.proofs.lemmas.Fmt.{decimal_digit, decimal_step_wide, decimal_by_steps_wide, decimal_is_IsNumeral_wide}
use Rattle.std.proofs.lemmas.Str.{digit_value_digit}
use Rattle.std.proofs.lemmas.Str.Parse.{IsNumeralModel, digit_from_value, numerals_by_value, tells_all_ascii_digits}
use Rattle.text_terms.specs.Numbers.{is_numeral, number_of}

-- what a text of digits alone means to std
pub texts : IsNumeralModel (λ ds. all_ascii_digits ds ≡ true) (digits_value 10)
texts = numerals_by_value _ tells_all_ascii_digits

-- the code of a digit from its value
digit_code : (c : ℕ) → digit_value c < 10 → 48 + digit_value c ≡ c
digit_code c below = omega (arith, digit_value_digit c (digit_from_value c below))

-- more digits make no smaller number
value_grows : (n : ℕ) (ds : List ℕ) → n ≤ digits_value_after 10 n ds
value_grows n [] = omega arith
value_grows n (c ∷ cs) = omega (arith, value_grows (n * 10 + digit_value c) cs)

-- digits behind a number that is not 0 stand behind its spelling
spelling_more : (n : ℕ) (ds : List ℕ) → 0 < n → AllDigits 10 ds → digits_value_after 10 n ds < 10 ^ 64
    → decimal (digits_value_after 10 n ds) ≡ decimal n ++ ds
spelling_more n [] some digits small = sym (append-nil (decimal n))
spelling_more n (c ∷ cs) some digits small =
    let next : ℕ = n * 10 + digit_value c in
    let last : 48 + next % 10 ≡ c = omega (arith, digit_code c digits.0) in
    let front : next / 10 ≡ n = omega (arith, digits.0) in
    let step : decimal next ≡ decimal n ++ c ∷ [] =
    decimal_step_wide next (omega arith) (omega (arith, value_grows next cs)) ∙ (λ i. decimal (front i) ++ last i ∷ []) in
    spelling_more next cs (omega arith) digits.1 small ∙ ap (λ ds. ds ++ cs) step ∙ append_assoc (decimal n) (c ∷ []) cs

-- a numeral is the spelling of its value
spelling_of_digits : (text : List ℕ) → AllDigits 10 text → 0 < length text → (get_or text 0 0 ≡ 48 → length text ≡ 1)
    → digits_value 10 text < 10 ^ 64 → decimal (digits_value 10 text) ≡ text
spelling_of_digits [] digits some zero_alone small = absurd (omega arith)
spelling_of_digits (c ∷ []) digits some zero_alone small =
    decimal_digit (0 * 10 + digit_value c) (omega (arith, digits.0)) ∙ ap (λ d. d ∷ []) (omega (arith, digit_code c digits.0))
spelling_of_digits (c ∷ d ∷ ds) digits some zero_alone small =
    let first : decimal (0 * 10 + digit_value c) ≡ c ∷ [] =
    decimal_digit (0 * 10 + digit_value c) (omega (arith, digits.0)) ∙ ap (λ x. x ∷ []) (omega (arith, digit_code c digits.0)) in
    let not_zero : c ≡ 48 → ⊥ = λ is. omega (arith, zero_alone is) in
    spelling_more (0 * 10 + digit_value c) (d ∷ ds) (omega (arith, digit_code c digits.0)) digits.1 small ∙ ap (λ x. x ++ d ∷ ds) first

-- a test of two parts, and one that lets a second part follow from a first
both : (a b : Bool) → (a && b) ≡ true → (a ≡ true) × (b ≡ true)
both true b is = (refl, is)
both false b is = cc

follows : (a b : Bool) → (not a || b) ≡ true → a ≡ true → b ≡ true
follows true b is a_true = is
follows false b is a_true = cc

-- a number that is kept under a test
kept : (b : Bool) (v n : ℕ) → (if b then Some v else None) ≡ Some n → (b ≡ true) × (v ≡ n)
kept true v n is = (refl, cc)
kept false v n is = cc

-- a numeral's digits, of which there is one, and no zero in front but where it stands alone
pub record HasNumeralForm (text : List ℕ) : Type 0 where
  pub digits : AllDigits 10 text
  pub some : 0 < length text
  pub zero_alone : get_or text 0 0 ≡ 48 → length text ≡ 1

pub form_of : (text : List ℕ) → is_numeral text ≡ true → HasNumeralForm text
form_of text is =
    let parts = both (all_ascii_digits text) (nat_lt 0 (length text) && (not (get_or text 0 0 == 48) || length text == 1)) is in
    let rest = both (nat_lt 0 (length text)) (not (get_or text 0 0 == 48) || length text == 1) parts.1 in
    record {
      digits = texts.to text parts.0;
      some = leb-true 1 (length text) rest.0;
      zero_alone = λ front. eqb-true (length text) 1 (follows (get_or text 0 0 == 48) (length text == 1) rest.1 (eq-eqb (get_or text 0 0) 48 front));
    }

-- what a text has that spells a number
record Spells (text : List ℕ) (n : ℕ) : Type 0 where
  form : HasNumeralForm text
  value : digits_value 10 text ≡ n
  small : n < 2 ^ 128

spells : (text : List ℕ) (n : ℕ) → number_of text ≡ Some n → Spells text n
spells text n is =
    let found = kept (is_numeral text && nat_lt (digits_value 10 text) (2 ^ 128)) (digits_value 10 text) n is in
    let parts = both (is_numeral text) (nat_lt (digits_value 10 text) (2 ^ 128)) found.0 in
    let below : digits_value 10 text < 2 ^ 128 = leb-true (suc (digits_value 10 text)) (2 ^ 128) parts.1 in
    record { form = form_of text parts.0; value = found.1; small = omega (arith, below, found.1) }

-- a text that spells a number is the spelling of it
pub spelling_of : (text : List ℕ) (n : ℕ) → number_of text ≡ Some n → text ≡ decimal n
spelling_of text n is =
    let s = spells text n is in
    sym (spelling_of_digits text s.form.digits s.form.some s.form.zero_alone (omega (arith, s.value, s.small))) ∙ ap decimal s.value

-- a number that a text spells is below 2^128
pub number_below : (text : List ℕ) (n : ℕ) → number_of text ≡ Some n → n < 2 ^ 128
number_below text n is = (spells text n is).small

-- the spelling of a number has a digit, and begins with a zero only at 0
record HasFirstDigit (n : ℕ) (ds : List ℕ) : Type 0 where
  some : 0 < length ds
  first : 0 < n → 48 < get_or ds 0 0

first_digit : (n : ℕ) → n < 10 ^ 64 → HasFirstDigit n (decimal n)
first_digit =
    decimal_by_steps_wide HasFirstDigit
    (λ n small. record { some = omega arith; first = λ above. omega arith })
    (λ n ds ten front. record {
      some = omega (arith, length-append ds ((48 + n % 10) ∷ []));
      first = λ above. omega (arith, get_or-append ds ((48 + n % 10) ∷ []) 0 0 front.some, front.first (omega arith));
    })

-- the same tests from their parts
keeps : (b : Bool) (v n : ℕ) → b ≡ true → v ≡ n → (if b then Some v else None) ≡ Some n
keeps true v n is same = ap Some same
keeps false v n is same = cc

joins : (a b : Bool) → a ≡ true → b ≡ true → (a && b) ≡ true
joins true b a_true b_true = b_true
joins false b a_true b_true = a_true

-- a zero in front of a spelling stands alone
zero_alone_test : (n : ℕ) → n < 10 ^ 64 → (not (get_or (decimal n) 0 0 == 48) || length (decimal n) == 1) ≡ true
zero_alone_test zero small = ap (λ ds. not (get_or ds 0 0 == 48) || length ds == 1) (decimal_digit 0 (omega arith))
zero_alone_test (suc n) small =
    let first : 48 < get_or (decimal (suc n)) 0 0 = (first_digit (suc n) small).first (omega arith) in
    ap (λ b. not b || length (decimal (suc n)) == 1) (ne_eqb (get_or (decimal (suc n)) 0 0) 48 (omega arith))

-- the spelling of a number below 2^128 spells it
pub number_of-decimal : (n : ℕ) → n < 2 ^ 128 → number_of (decimal n) ≡ Some n
number_of-decimal n small =
    let wide : n < 10 ^ 64 = omega arith in
    let numeral = decimal_is_IsNumeral_wide n wide in
    let value : digits_value 10 (decimal n) ≡ n = numeral.1 in
    let text = decimal n in
    keeps (is_numeral text && nat_lt (digits_value 10 text) (2 ^ 128)) (digits_value 10 text) n
    (joins (is_numeral text) (nat_lt (digits_value 10 text) (2 ^ 128))
    (joins (all_ascii_digits text) (nat_lt 0 (length text) && (not (get_or text 0 0 == 48) || length text == 1))
    (texts.from text numeral.0.1)
    (joins (nat_lt 0 (length text)) (not (get_or text 0 0 == 48) || length text == 1) (le-leb 1 (length text) numeral.0.0) (zero_alone_test n wide)))
    (le-leb (suc (digits_value 10 text)) (2 ^ 128) (omega (arith, value))))
    value
