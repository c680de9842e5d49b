-- Texts of digits, as the reader takes them.
use Rattle.std.proofs.Common.{◌≡◌, ap, ℕ, zero, suc, ◌+◌, ◌*◌, ◌^◌, ◌<◌, ◌≤◌, true, ◌&&◌, List, [], ◌∷◌, ◌++◌, length, get_or, take, drop, min, codes, refl, arith, lit<}
use Rattle.std.specs.Char.{is_ascii_digit, digit_value}
use Rattle.std.specs.List.{list_all}
use Rattle.std.specs.Str.{all_ascii_digits}
use Rattle.std.specs.Str.Parse.{digits_value}
use Rattle.std.proofs.lemmas.Int.Digits.{digits_value-lt, digits_value_more}
use Rattle.std.proofs.lemmas.List.{length-take}
use Rattle.std.proofs.Math.Nat.{pow-le-pow_right}
use Rattle.playlist_terms.specs.Durations.{first_six}
use Rattle.playlist_terms.proofs.Digits.{both, texts, digits_take}

-- the same test in other words
pub all_digits_test : (bytes : List ℕ) → list_all is_ascii_digit bytes ≡ all_ascii_digits bytes
all_digits_test [] = refl
all_digits_test (c ∷ cs) = ap (λ b. is_ascii_digit c && b) (all_digits_test cs)

digit_at : (text : List ℕ) (i : ℕ) → all_ascii_digits text ≡ true → i < length text → is_ascii_digit (get_or text i 0) ≡ true
digit_at [] i is inside = absurd (omega arith)
digit_at (c ∷ cs) zero is inside = (both (is_ascii_digit c) (all_ascii_digits cs) is).0
digit_at (c ∷ cs) (suc i) is inside = digit_at cs i (both (is_ascii_digit c) (all_ascii_digits cs) is).1 (omega arith)

-- the value of digits has a bound by their number
pub value_below : (text : List ℕ) (most : ℕ) → all_ascii_digits text ≡ true → length text ≤ most → digits_value 10 text < 10 ^ most
value_below text most is few = omega (arith, digits_value-lt 10 text (texts.to text is), pow-le-pow_right {n = 10} (lit< tt) {i = length text} {j = most} few)

-- one digit more
pub record Step (text : List ℕ) (i : ℕ) : Type 0 where
  pub digit : is_ascii_digit (get_or text i 0) ≡ true
  pub value : digits_value 10 (take (i + 1) text) ≡ digits_value 10 (take i text) * 10 + digit_value (get_or text i 0)
  pub below : digits_value 10 (take (i + 1) text) < 10 ^ 20

pub step : (text : List ℕ) (i : ℕ) → all_ascii_digits text ≡ true → length text ≤ 20 → i < length text → Step text i
step text i is few inside = record {
  digit = digit_at text i is inside;
  value = digits_value_more 10 text i inside;
  below = value_below (take (i + 1) text) 20 (digits_take (i + 1) text is) (omega (arith, few, length-take (i + 1) text));
}

-- the digits that are given, and zeros behind them
pub over_zeros : (fraction : List ℕ) (given : ℕ) → given ≡ min (length fraction) 6 → take given fraction ++ drop given (codes "000000") ≡ first_six fraction
over_zeros [] given is = rw is refl
over_zeros (a ∷ []) given is = rw is refl
over_zeros (a ∷ b ∷ []) given is = rw is refl
over_zeros (a ∷ b ∷ c ∷ []) given is = rw is refl
over_zeros (a ∷ b ∷ c ∷ d ∷ []) given is = rw is refl
over_zeros (a ∷ b ∷ c ∷ d ∷ e ∷ []) given is = rw is refl
over_zeros (a ∷ b ∷ c ∷ d ∷ e ∷ f ∷ more) given is =
    let six : given ≡ 6 = omega (arith, is) in
    rw six refl
