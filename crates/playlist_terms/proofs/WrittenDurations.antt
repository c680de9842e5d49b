-- A duration that was written is read again.
use Rattle.std.proofs.Common.{◌≡◌, ◌∙◌, ap, ℕ, zero, suc, ◌+◌, ◌%◌, ◌/◌, ◌^◌, ◌<◌, ◌≤◌, true, ◌&&◌, eqb, nat_le, Some, List, [], ◌∷◌, ◌++◌, length, length-append, get_or, codes, refl, arith}
use Rattle.std.specs.Char.{is_ascii_digit, digit_value}
use Rattle.std.specs.Fmt.{decimal}
use Rattle.std.specs.List.{list_all, position_or_len, before_first, after_first}
use Rattle.std.specs.Str.{all_ascii_digits}
use Rattle.std.specs.Str.Parse.{digits_value}
use Rattle.std.proofs.Math.ListN.{get_or-append}
use Rattle.std.proofs.Math.Seq.{get_or-append_seam, take-append_seam, drop-append-add}
use Rattle.std.proofs.lemmas.Bool.{ne_eqb, leb-true}
use Rattle.std.proofs.lemmas.Bool.Decides.{nat_tests}
use Rattle.std.proofs.lemmas.List.Folds.{list_all-append}
use Rattle.std.proofs.lemmas.List.Sums.{AllPass-from_list_all, position_or_len_is}
use Rattle.std.proofs.lemmas.Str.{digit_value_digit}
use Rattle.playlist_terms.specs.TagValues.{are_digits}
use Rattle.playlist_terms.specs.Durations.{first_six, seconds_to_micros, micros_of_parts, duration_of, low_digits, duration_text}
use Rattle.playlist_terms.proofs.Digits.{both, joins, keeps, digits_append, decimal_digits, decimal_value, decimal_are_digits}

-- ---- bytes from a limit on

-- each byte is at least this
abbrev pub IsFrom : ℕ → List ℕ → Type 0
IsFrom low text = list_all (λ b. nat_le low b) text ≡ true

pub from_append : (low : ℕ) (a b : List ℕ) → IsFrom low a → IsFrom low b → IsFrom low (a ++ b)
from_append low a b first second = list_all-append (λ b. nat_le low b) a b ∙ joins (list_all (λ b. nat_le low b) a) (list_all (λ b. nat_le low b) b) first second

digit_from : (low c : ℕ) → low ≤ 48 → is_ascii_digit c ≡ true → nat_le low c ≡ true
digit_from low c small is = grind (arith, nat_tests)

pub digits_from : (low : ℕ) (ds : List ℕ) → low ≤ 48 → all_ascii_digits ds ≡ true → IsFrom low ds
digits_from low [] small is = refl
digits_from low (c ∷ cs) small is =
    let parts = both (is_ascii_digit c) (all_ascii_digits cs) is in
    joins (nat_le low c) (list_all (λ b. nat_le low b) cs) (digit_from low c small parts.0) (digits_from low cs small parts.1)

-- ---- cutting behind such a front

record IsCut (mark : ℕ) (front rest : List ℕ) : Type 0 where
  before : before_first (λ b. eqb b mark) (front ++ mark ∷ rest) ≡ front
  after : after_first (λ b. eqb b mark) (front ++ mark ∷ rest) ≡ rest

mark_is : (mark : ℕ) → eqb mark mark ≡ true
mark_is mark = grind (arith, nat_tests)

cut : (mark : ℕ) (front rest : List ℕ) → IsFrom (suc mark) front → IsCut mark front rest
cut mark front rest high =
    let whole : List ℕ = front ++ mark ∷ rest in
    let long : length whole ≡ length front + suc (length rest) = length-append front (mark ∷ rest) in
    let place : position_or_len (λ b. eqb b mark) whole ≡ length front =
    position_or_len_is (λ b. eqb b mark) whole (length front) 0 (omega (arith, long))
    (λ k inside. rw (get_or-append front (mark ∷ rest) 0 k inside) (ne_eqb (get_or front k 0) mark (λ e. omega (arith, e, leb-true (suc mark) (get_or front k 0) (AllPass-from_list_all (λ b. nat_le (suc mark) b) front high k 0 inside)))))
    (λ _. rw (get_or-append_seam front mark rest 0) (mark_is mark)) in
    record { before = rw place (take-append_seam front (mark ∷ rest)); after = rw place (drop-append-add front (mark ∷ rest) 1) }

-- ---- six digits

digit_code : (a : ℕ) → is_ascii_digit (48 + a % 10) ≡ true
digit_code a = let small : a % 10 < 10 = omega arith in grind (arith, nat_tests, small)

code_value : (a : ℕ) → digit_value (48 + a % 10) ≡ a % 10
code_value a = omega (arith, digit_value_digit (48 + a % 10) (omega arith, omega arith))

pub low_digits_are : (k n : ℕ) → all_ascii_digits (low_digits k n) ≡ true
low_digits_are zero n = refl
low_digits_are (suc k) n = digits_append (low_digits k (n / 10)) ((48 + n % 10) ∷ []) (low_digits_are k (n / 10)) (joins (is_ascii_digit (48 + n % 10)) true (digit_code n) refl)

six_value : (n : ℕ) → n < 10 ^ 6 → digits_value 10 (low_digits 6 n) ≡ n
six_value n small = omega (arith, code_value n, code_value (n / 10), code_value (n / 10 / 10), code_value (n / 10 / 10 / 10), code_value (n / 10 / 10 / 10 / 10), code_value (n / 10 / 10 / 10 / 10 / 10))

-- ---- the duration

pub duration_from : (micros : ℕ) → micros < 10 ^ 16 → IsFrom 45 (duration_text micros)
duration_from micros small =
    from_append 45 (decimal (micros / 1000000)) (codes "." ++ low_digits 6 (micros % 1000000)) (digits_from 45 (decimal (micros / 1000000)) (omega arith) (decimal_digits (micros / 1000000) (omega arith)))
    (digits_from 45 (low_digits 6 (micros % 1000000)) (omega arith) (low_digits_are 6 (micros % 1000000)))

parts_again : (micros : ℕ) → micros < 10 ^ 16 → micros_of_parts (decimal (micros / 1000000)) (low_digits 6 (micros % 1000000)) ≡ Some micros
parts_again micros small =
    let seconds : ℕ = micros / 1000000 in
    let rest : ℕ = micros % 1000000 in
    let seconds_small : seconds < 10 ^ 10 = omega arith in
    let first : digits_value 10 (decimal seconds) ≡ seconds = decimal_value seconds (omega (arith, seconds_small)) in
    let second : digits_value 10 (first_six (low_digits 6 rest)) ≡ rest = six_value rest (omega arith) in
    keeps (are_digits 10 (decimal seconds) && all_ascii_digits (low_digits 6 rest)) (seconds_to_micros (decimal seconds) (low_digits 6 rest)) micros
    (joins (are_digits 10 (decimal seconds)) (all_ascii_digits (low_digits 6 rest)) (decimal_are_digits 10 seconds (omega arith) seconds_small (omega (arith, seconds_small))) (low_digits_are 6 rest))
    (omega (arith, first, second))

pub duration_again : (micros : ℕ) → micros < 10 ^ 16 → duration_of (duration_text micros ++ codes ",") ≡ Some micros
duration_again micros small =
    let comma = cut 44 (duration_text micros) [] (duration_from micros small) in
    let point = cut 46 (decimal (micros / 1000000)) (low_digits 6 (micros % 1000000)) (digits_from 47 (decimal (micros / 1000000)) (omega arith) (decimal_digits (micros / 1000000) (omega arith))) in
    ap (λ number. micros_of_parts (before_first (λ b. eqb b 46) number) (after_first (λ b. eqb b 46) number)) comma.before
    ∙ (λ i. micros_of_parts (point.before i) (point.after i))
    ∙ parts_again micros small
