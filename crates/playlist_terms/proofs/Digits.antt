-- Texts of digits.
use Rattle.std.proofs.Common.{◌≡◌, ap, ℕ, zero, suc, ◌^◌, ◌<◌, ◌≤◌, Bool, true, false, ◌&&◌, nat_le, cond, Some, None, lit<, List, [], ◌∷◌, ◌++◌, length, take, codes, refl, arith}
use Rattle.std.specs.Prelude.{nat_lt}
use Rattle.std.specs.Char.{is_ascii_digit}
use Rattle.std.specs.Fmt.{decimal}
use Rattle.std.specs.Str.{all_ascii_digits, IsUtf8}
use Rattle.std.specs.Str.Parse.{digits_value}
use Rattle.std.proofs.lemmas.Bool.{leb-true, le-leb}
use Rattle.std.proofs.lemmas.Fmt.{decimal_is_IsNumeral_wide, length-decimal-le_wide, IsAscii-decimal_wide}
use Rattle.std.proofs.lemmas.Str.{IsUtf8-from_ascii}
use Rattle.std.proofs.lemmas.Str.Parse.{IsNumeralModel, numerals_by_value, tells_all_ascii_digits}
use Rattle.playlist_terms.specs.TagValues.{are_digits, whole_number_of, as_version}
use Rattle.playlist_terms.specs.Durations.{first_six}

-- ---- tests of several parts

pub both : (a b : Bool) → (a && b) ≡ true → (a ≡ true) × (b ≡ true)
both true b is = (refl, is)
both false b is = cc

pub joins : (a b : Bool) → a ≡ true → b ≡ true → (a && b) ≡ true
joins true b a_true b_true = b_true
joins false b a_true b_true = a_true

-- ---- digits

-- what a text of digits alone means to std
pub texts : IsNumeralModel (λ ds. all_ascii_digits ds ≡ true) (digits_value 10)
texts = numerals_by_value _ tells_all_ascii_digits

pub record HasDigits (most : ℕ) (text : List ℕ) : Type 0 where
  pub digits : all_ascii_digits text ≡ true
  pub some : 1 ≤ length text
  pub few : length text ≤ most

pub has_digits : (most : ℕ) (text : List ℕ) → are_digits most text ≡ true → HasDigits most text
has_digits most text is =
    let parts = both (all_ascii_digits text) (nat_le 1 (length text) && nat_le (length text) most) is in
    let sizes = both (nat_le 1 (length text)) (nat_le (length text) most) parts.1 in
    record { digits = parts.0; some = leb-true 1 (length text) sizes.0; few = leb-true (length text) most sizes.1 }

pub digits_append : (a b : List ℕ) → all_ascii_digits a ≡ true → all_ascii_digits b ≡ true → all_ascii_digits (a ++ b) ≡ true
digits_append [] b first second = second
digits_append (c ∷ cs) b first second =
    let parts = both (is_ascii_digit c) (all_ascii_digits cs) first in
    joins (is_ascii_digit c) (all_ascii_digits (cs ++ b)) parts.0 (digits_append cs b parts.1 second)

pub digits_take : (n : ℕ) (a : List ℕ) → all_ascii_digits a ≡ true → all_ascii_digits (take n a) ≡ true
digits_take zero a is = refl
digits_take (suc n) [] is = refl
digits_take (suc n) (c ∷ cs) is =
    let parts = both (is_ascii_digit c) (all_ascii_digits cs) is in
    joins (is_ascii_digit c) (all_ascii_digits (take n cs)) parts.0 (digits_take n cs parts.1)

pub six_are_digits : (fraction : List ℕ) → all_ascii_digits fraction ≡ true → all_ascii_digits (first_six fraction) ≡ true
six_are_digits fraction is = digits_take 6 (fraction ++ codes "000000") (digits_append fraction (codes "000000") is refl)

-- ---- the spelling of a number

pub decimal_digits : (n : ℕ) → n < 10 ^ 64 → all_ascii_digits (decimal n) ≡ true
decimal_digits n small = texts.from (decimal n) (decimal_is_IsNumeral_wide n small).0.1

pub decimal_value : (n : ℕ) → n < 10 ^ 64 → digits_value 10 (decimal n) ≡ n
decimal_value n small = (decimal_is_IsNumeral_wide n small).1

pub decimal_utf8 : (n : ℕ) → n < 10 ^ 64 → IsUtf8 (decimal n)
decimal_utf8 n small = IsUtf8-from_ascii (decimal n) (IsAscii-decimal_wide n small)

pub decimal_are_digits : (most n : ℕ) → 0 < most → n < 10 ^ most → n < 10 ^ 64 → are_digits most (decimal n) ≡ true
decimal_are_digits most n some small wide =
    let length_some : 0 < length (decimal n) = (decimal_is_IsNumeral_wide n wide).0.0 in
    joins (all_ascii_digits (decimal n)) (nat_le 1 (length (decimal n)) && nat_le (length (decimal n)) most) (decimal_digits n wide)
    (joins (nat_le 1 (length (decimal n))) (nat_le (length (decimal n)) most) (le-leb 1 (length (decimal n)) length_some) (le-leb (length (decimal n)) most (length-decimal-le_wide most n some small wide)))

pub keeps : (b : Bool) (v n : ℕ) → b ≡ true → v ≡ n → cond b (Some v) None ≡ Some n
keeps true v n is same = ap Some same
keeps false v n is same = cc

pub number_again : (n : ℕ) → n < 2 ^ 64 → whole_number_of (decimal n) ≡ Some n
number_again n small =
    let wide : n < 10 ^ 64 = omega arith in
    let value = decimal_value n wide in
    keeps (are_digits 20 (decimal n) && nat_lt (digits_value 10 (decimal n)) (2 ^ 64)) (digits_value 10 (decimal n)) n
    (joins (are_digits 20 (decimal n)) (nat_lt (digits_value 10 (decimal n)) (2 ^ 64)) (decimal_are_digits 20 n (lit< tt) (omega arith) wide) (le-leb (suc (digits_value 10 (decimal n))) (2 ^ 64) (omega (arith, value))))
    value

pub version_again : (n : ℕ) → 1 ≤ n → n ≤ 65535 → as_version (Some n) ≡ Some n
version_again n low high = keeps (nat_le 1 n && nat_le n 65535) n n (joins (nat_le 1 n) (nat_le n 65535) (le-leb 1 n low) (le-leb n 65535 high)) refl
