-- Bytes that are a text, and bytes that are none.
use Rattle.std.proofs.Common.{◌≡◌, ℕ, true, false, List, Some, None, ap, ◌∙◌, refl}
use Rattle.std.specs.Str.{is_utf8, IsUtf8}
use Rattle.std.proofs.lemmas.Bool.{false_from_ne_true}
use Rattle.std.proofs.lemmas.Str.{is_utf8-from_IsUtf8, IsUtf8-from_is_utf8}
use Rattle.title_terms.specs.TitleText.{if_text}

pub a_text : (bytes text : List ℕ) → text ≡ bytes → IsUtf8 bytes → Some text ≡ if_text (Some bytes)
a_text bytes text is utf8 =
    let passes : is_utf8 bytes ≡ true = is_utf8-from_IsUtf8 bytes utf8 in
    ap Some is ∙ rw passes refl

pub no_text : (bytes : List ℕ) → (IsUtf8 bytes → ⊥) → None ≡ if_text (Some bytes)
no_text bytes never =
    let fails : is_utf8 bytes ≡ false = false_from_ne_true (is_utf8 bytes) (λ is. never (IsUtf8-from_is_utf8 bytes is)) in
    rw fails refl
