-- What `parse` gives of a text of digits.
use Rattle.std.proofs.Common.{◌≡◌, ◌∙◌, ap, ℕ, ◌≤◌, ◌^◌, Bool, true, false, ◌&&◌, List, [], ◌∷◌, Some, None, Result, Ok, Err, refl, arith}
use Rattle.std.specs.Prelude.{if◌then◌else◌, nat_lt}
use Rattle.std.specs.Char.{is_ascii_digit}
use Rattle.std.specs.List.{list_all}
use Rattle.std.specs.Result.{result_ok}
use Rattle.std.specs.Str.{all_ascii_digits}
use Rattle.std.specs.Str.Parse.{digits_value, ParsesUnsigned}
use Rattle.std.proofs.lemmas.Bool.{lt-ltb, le-ltb}
use Rattle.std.proofs.lemmas.Str.Parse.{parse_digits}
use Rattle.text_terms.specs.Numbers.{is_numeral, number_of}
use Rattle.text_terms.proofs.NumberLaws.{texts, form_of}

pub all_digits_test : (bytes : List ℕ) → list_all is_ascii_digit bytes ≡ all_ascii_digits bytes
all_digits_test [] = refl
all_digits_test (b ∷ bs) = ap (λ rest. is_ascii_digit b && rest) (all_digits_test bs)

-- what a test keeps and drops
kept : (a b : Bool) (v : ℕ) → a ≡ true → b ≡ true → Some v ≡ (if a && b then Some v else None)
kept true true v a_true b_true = refl
kept true false v a_true b_true = cc
kept false b v a_true b_true = cc

dropped : (a b : Bool) (v : ℕ) → b ≡ false → None ≡ (if a && b then Some v else None)
dropped a true v b_false = cc
dropped true false v b_false = refl
dropped false false v b_false = refl

-- of a numeral `parse` gives the number that it spells
pub parsed_numeral : {E : Type 0} (text : List ℕ) (r : Result ℕ E) → ParsesUnsigned 128 10 text r → is_numeral text ≡ true → result_ok r ≡ number_of text
parsed_numeral {E} text (Ok n) parses is =
    let form = form_of text is in
    let told = parse_digits texts {E = E} 128 text (Ok n) parses (texts.from text form.digits) in
    let value : n ≡ digits_value 10 text = told.1 in
    ap Some value ∙ kept (is_numeral text) (nat_lt (digits_value 10 text) (2 ^ 128)) (digits_value 10 text) is (lt-ltb (digits_value 10 text) (2 ^ 128) told.0.1)
parsed_numeral {E} text (Err e) parses is =
    let form = form_of text is in
    let told = parse_digits texts {E = E} 128 text (Err e) parses (texts.from text form.digits) in
    let high : 2 ^ 128 ≤ digits_value 10 text = grind (arith, told, form.some) in
    dropped (is_numeral text) (nat_lt (digits_value 10 text) (2 ^ 128)) (digits_value 10 text) (le-ltb (digits_value 10 text) (2 ^ 128) high)
