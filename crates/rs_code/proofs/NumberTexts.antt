-- Bytes that spell a number are text.
use Rattle.std.proofs.Common.{◌≡◌, ℕ, ◌^◌, ◌<◌, List, Some, None, Option, refl, sym, subst, arith}
use Rattle.std.specs.Fmt.{decimal}
use Rattle.std.specs.Str.{IsUtf8}
use Rattle.std.proofs.lemmas.Fmt.{IsAscii-decimal_wide}
use Rattle.std.proofs.lemmas.Str.{IsUtf8-from_ascii}
use Rattle.text_terms.specs.Numbers.{number_of}
use Rattle.text_terms.proofs.NumberLaws.{spelling_of, number_below}

pub IsUtf8-from_number_of : (text : List ℕ) (n : ℕ) → number_of text ≡ Some n → IsUtf8 text
IsUtf8-from_number_of text n is =
    let wide : n < 10 ^ 64 = omega (arith, number_below text n is) in
    subst IsUtf8 (sym (spelling_of text n is)) (IsUtf8-from_ascii (decimal n) (IsAscii-decimal_wide n wide))

pub number_of_no_text : (text : List ℕ) → (IsUtf8 text → ⊥) → number_of text ≡ None
number_of_no_text text none = by (number_of text) (λ n is. none (IsUtf8-from_number_of text n is))
  where
    by : (number : Option ℕ) → ((n : ℕ) → number ≡ Some n → ⊥) → number ≡ None
    by None never = refl
    by (Some n) never = absurd (never n refl)
