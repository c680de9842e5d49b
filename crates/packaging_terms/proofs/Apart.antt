-- No two variants of a design have one name.
use Rattle.std.proofs.Common.{◌≡◌, ◌∙◌, sym, ap, ℕ, zero, suc, ◌+◌, ◌*◌, ◌^◌, ◌<◌, Bool, false, eqb, List, [], ◌∷◌, ◌++◌, length, length-append, take, drop, get_or, codes, Some, Ok, Result, refl, arith}
use Rattle.std.specs.Fmt.{decimal}
use Rattle.std.specs.List.{position_or_len}
use Rattle.std.proofs.Math.ListN.{get_or-append}
use Rattle.std.proofs.Math.Seq.{get_or-append_seam}
use Rattle.std.proofs.lemmas.Bool.{ne_eqb}
use Rattle.std.proofs.lemmas.Fmt.{decimal_is_IsNumeral_wide}
use Rattle.std.proofs.lemmas.List.{take_at, drop_at}
use Rattle.std.proofs.lemmas.List.Sums.{position_or_len_is}
use Rattle.std.proofs.lemmas.Str.Parse.{digit_at}
use Rattle.text_terms.specs.Numbers.{number_of}
use Rattle.text_terms.proofs.NumberLaws.{number_of-decimal}
use Rattle.hex.specs.Hex.{IsBytes, encode_lower, lower_digits, decode_of}
use Rattle.hex.proofs.HexLemmas.{decode_of-encode_lower, length-encode_with}
use Rattle.title_terms.specs.Designs.{Design, variant_name}

-- where the first dash stands behind digits
dash_at : (n : ℕ) (back : List ℕ) → n < 2 ^ 128 → position_or_len (λ b. eqb b 45) (decimal n ++ (codes "-" ++ back)) ≡ length (decimal n)
dash_at n back small =
    let digits = decimal n in
    let p : ℕ → Bool = λ b. eqb b 45 in
    let numeral = decimal_is_IsNumeral_wide n (omega arith) in
    let long : length (digits ++ (codes "-" ++ back)) ≡ length digits + suc (length back) = length-append digits (codes "-" ++ back) in
    let earlier : (k : ℕ) → k < length digits → p (get_or (digits ++ (codes "-" ++ back)) k 0) ≡ false =
    λ k lt. ap p (get_or-append digits (codes "-" ++ back) 0 k lt) ∙ ne_eqb (get_or digits k 0) 45 (λ same. omega (arith, digit_at digits k numeral.0.1 lt, same)) in
    position_or_len_is p (digits ++ (codes "-" ++ back)) (length digits) 0 (omega (arith, long)) earlier (λ _. ap p (get_or-append_seam digits 45 back 0))

some_same : (x y : ℕ) → Some x ≡ Some y → x ≡ y
some_same x y is = cc

ok_same : {E : Type 0} (x y : ℕ) → (let r : Result (List ℕ) E = Ok (x ∷ []) in r) ≡ Ok (y ∷ []) → x ≡ y
ok_same x y is = cc

pub one_byte : (symbol : ℕ) → symbol < 256 → IsBytes (symbol ∷ [])
one_byte symbol below zero = below
one_byte symbol below (suc i) = omega arith

pub record SameVariant (i j v w : ℕ) : Type 0 where
  pub place : i ≡ j
  pub symbol : v ≡ w

pub apart : (d : Design) (i j v w : ℕ) → i < 2 ^ 128 → j < 2 ^ 128 → v < 256 → w < 256 → variant_name d i v ≡ variant_name d j w → SameVariant i j v w
apart d i j v w i_small j_small v_small w_small is =
    let v_text : List ℕ = encode_lower (v ∷ []) ++ d.suffix in
    let w_text : List ℕ = encode_lower (w ∷ []) ++ d.suffix in
    let i_rest : List ℕ = decimal i ++ (codes "-" ++ v_text) in
    let j_rest : List ℕ = decimal j ++ (codes "-" ++ w_text) in
    let rest : i_rest ≡ j_rest = sym (drop_at d.prefix i_rest (length d.prefix) refl) ∙ ap (drop (length d.prefix)) is ∙ drop_at d.prefix j_rest (length d.prefix) refl in
    let long : length (decimal i) ≡ length (decimal j) = sym (dash_at i v_text i_small) ∙ ap (position_or_len (λ b. eqb b 45)) rest ∙ dash_at j w_text j_small in
    let digits : decimal i ≡ decimal j = sym (take_at (decimal i) (codes "-" ++ v_text) (length (decimal j)) long) ∙ ap (take (length (decimal j))) rest ∙ take_at (decimal j) (codes "-" ++ w_text) (length (decimal j)) refl in
    let behind : codes "-" ++ v_text ≡ codes "-" ++ w_text = sym (drop_at (decimal i) (codes "-" ++ v_text) (length (decimal j)) long) ∙ ap (drop (length (decimal j))) rest ∙ drop_at (decimal j) (codes "-" ++ w_text) (length (decimal j)) refl in
    let texts : v_text ≡ w_text = ap (drop 1) behind in
    let v_two : length (encode_lower (v ∷ [])) ≡ 2 * 1 = length-encode_with lower_digits (v ∷ []) in
    let w_two : length (encode_lower (w ∷ [])) ≡ 2 * 1 = length-encode_with lower_digits (w ∷ []) in
    let hex : encode_lower (v ∷ []) ≡ encode_lower (w ∷ []) = sym (take_at (encode_lower (v ∷ [])) d.suffix (2 * 1) v_two) ∙ ap (take (2 * 1)) texts ∙ take_at (encode_lower (w ∷ [])) d.suffix (2 * 1) w_two in
    record {
      place = some_same i j (sym (number_of-decimal i i_small) ∙ ap number_of digits ∙ number_of-decimal j j_small);
      symbol = ok_same v w (sym (decode_of-encode_lower (v ∷ []) (one_byte v v_small)) ∙ ap decode_of hex ∙ decode_of-encode_lower (w ∷ []) (one_byte w w_small));
    }
