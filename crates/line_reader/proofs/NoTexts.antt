-- Bytes that are no text spell no number and are no plain name.
use Rattle.std.proofs.Common.{◌≡◌, ℕ, ◌<◌, true, false, List, length, get_or, Option, Some, None, refl, sym, subst, arith, inl, inr}
use Rattle.std.specs.Str.{IsUtf8}
use Rattle.std.specs.Fmt.{decimal}
use Rattle.std.proofs.lemmas.List.{get_or_past}
use Rattle.std.proofs.lemmas.Bool.{cases_lt, false_from_ne_true}
use Rattle.std.proofs.lemmas.Fmt.{IsAscii-decimal_wide}
use Rattle.std.proofs.lemmas.Str.{IsUtf8-from_ascii}
use Rattle.text_terms.specs.Names.{is_plain}
use Rattle.text_terms.specs.Numbers.{number_of}
use Rattle.text_terms.proofs.NameLaws.{plain_bytes}
use Rattle.text_terms.proofs.NumberLaws.{spelling_of, number_below}

plain_utf8 : (bytes : List ℕ) → is_plain bytes ≡ true → IsUtf8 bytes
plain_utf8 bytes is =
    IsUtf8-from_ascii bytes (λ i. elim (cases_lt i (length bytes)) as (λ _. get_or bytes i 0 < 128) [
      | inl lt ↦ omega (arith, plain_bytes bytes is i 0 lt)
      | inr le ↦ rw (get_or_past bytes i 0 le) (omega arith)
    ])

pub no_text_no_name : (bytes : List ℕ) → (IsUtf8 bytes → ⊥) → is_plain bytes ≡ false
no_text_no_name bytes no_text = false_from_ne_true (is_plain bytes) (λ is. no_text (plain_utf8 bytes is))

number_utf8 : (bytes : List ℕ) (n : ℕ) → number_of bytes ≡ Some n → IsUtf8 bytes
number_utf8 bytes n is =
    subst IsUtf8 (sym (spelling_of bytes n is)) (IsUtf8-from_ascii (decimal n) (IsAscii-decimal_wide n (omega (arith, number_below bytes n is))))

none_from : (found : Option ℕ) → ((n : ℕ) → found ≡ Some n → ⊥) → None ≡ found
none_from None never = refl
none_from (Some n) never = absurd (never n refl)

pub no_text_no_number : (bytes : List ℕ) → (IsUtf8 bytes → ⊥) → None ≡ number_of bytes
no_text_no_number bytes no_text = none_from (number_of bytes) (λ n is. no_text (number_utf8 bytes n is))
