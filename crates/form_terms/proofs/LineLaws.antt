-- Cutting a text at its line feeds, and writing lines one after the other.
use Rattle.std.proofs.Common.{◌≡◌, ◌≢◌, ℕ, suc, ◌^◌, ◌<◌, Bool, true, false, cond, eqb, not, List, [], ◌∷◌, ◌++◌, length, take, drop, Option, Some, None, refl, sym, ap, ◌∙◌, append_assoc, arith}
use Rattle.std.specs.List.{All, flat_map, onto_first, join_with_byte, list_all}
use Rattle.std.specs.Str.{bytes_eq}
use Rattle.std.specs.Fmt.{decimal}
use Rattle.std.proofs.lemmas.Bool.{ne_eqb, eq-eqb, false≢true}
use Rattle.std.proofs.lemmas.Fmt.{decimal_is_IsNumeral_wide}
use Rattle.std.proofs.lemmas.List.{take_at, drop_at, take-append-drop}
use Rattle.std.proofs.lemmas.List.Elements.{All-weaker, All-append, All-from_get_or}
use Rattle.std.proofs.lemmas.List.Splits.{slice_split_at, join_with_byte-slice_split}
use Rattle.std.proofs.lemmas.List.Sums.{AllPass-from_list_all}
use Rattle.std.proofs.lemmas.Slice.Eq.{bytes_eq-Decides}
use Rattle.std.proofs.lemmas.Str.Parse.{digit_at}
use Rattle.text_terms.specs.Numbers.{number_of}
use Rattle.text_terms.proofs.NumberLaws.{number_of-decimal, spelling_of}
use Rattle.form_terms.specs.TextLines.{line, parts_of, all_but_last, last_part, ended_lines, rest_of, number_after, after_word}

-- a text without line feed
abbrev pub OneLine : List ℕ → Type 0
OneLine text = All (λ b. b ≢ 10) text

-- there is always a first part
pub record HasFirst (parts : List (List ℕ)) : Type 0 where
  pub first : List ℕ
  pub others : List (List ℕ)
  pub is : parts ≡ first ∷ others

onto_first_has : (b : ℕ) (parts : List (List ℕ)) → HasFirst (onto_first b parts)
onto_first_has b [] = record { first = b ∷ []; others = []; is = refl }
onto_first_has b (part ∷ parts) = record { first = b ∷ part; others = parts; is = refl }

split_has : (feed : Bool) (b : ℕ) (parts : List (List ℕ)) → HasFirst (cond feed ([] ∷ parts) (onto_first b parts))
split_has true b parts = record { first = []; others = parts; is = refl }
split_has false b parts = onto_first_has b parts

pub parts_have : (bytes : List ℕ) → HasFirst (parts_of bytes)
parts_have [] = record { first = []; others = []; is = refl }
parts_have (b ∷ bytes) = split_has (eqb b 10) b (parts_of bytes)

-- a line in front of other bytes is the first part
pub parts_of-line : (text rest : List ℕ) → OneLine text → parts_of (line text ++ rest) ≡ text ∷ parts_of rest
parts_of-line text rest one =
    ap parts_of (append_assoc text (10 ∷ []) rest) ∙ slice_split_at (λ b. eqb b 10) text 10 rest (All-weaker (λ b. b ≢ 10) (λ b. eqb b 10 ≡ false) (λ b differs. ne_eqb b 10 differs) text one) refl

-- ---- a text and its lines

joined : (parts : List (List ℕ)) → flat_map line (all_but_last parts) ++ last_part parts ≡ join_with_byte 10 parts
joined [] = refl
joined (last ∷ []) = refl
joined (text ∷ next ∷ parts) =
    append_assoc (line text) (flat_map line (all_but_last (next ∷ parts))) (last_part (next ∷ parts))
    ∙ ap (λ (t : List ℕ). line text ++ t) (joined (next ∷ parts))
    ∙ append_assoc text (10 ∷ []) (join_with_byte 10 (next ∷ parts))

pub lines_and_rest : (bytes : List ℕ) → flat_map line (ended_lines bytes) ++ rest_of bytes ≡ bytes
lines_and_rest bytes = joined (parts_of bytes) ∙ join_with_byte-slice_split 10 bytes

pub ended_lines-line : (text rest : List ℕ) → OneLine text → ended_lines (line text ++ rest) ≡ text ∷ ended_lines rest
ended_lines-line text rest one =
    let some = parts_have rest in
    ap all_but_last (parts_of-line text rest one) ∙ rw some.is refl

pub rest_of-line : (text rest : List ℕ) → OneLine text → rest_of (line text ++ rest) ≡ rest_of rest
rest_of-line text rest one =
    let some = parts_have rest in
    ap last_part (parts_of-line text rest one) ∙ rw some.is refl

pub lines_again : (lines : List (List ℕ)) → All OneLine lines → ended_lines (flat_map line lines) ≡ lines
lines_again [] all = refl
lines_again (text ∷ lines) all =
    ended_lines-line text (flat_map line lines) (all 0 [] (omega arith))
    ∙ ap (λ (ls : List (List ℕ)). text ∷ ls) (lines_again lines (λ i d lt. all (suc i) d (omega (arith, lt))))

pub no_rest : (lines : List (List ℕ)) → All OneLine lines → rest_of (flat_map line lines) ≡ []
no_rest [] all = refl
no_rest (text ∷ lines) all =
    rest_of-line text (flat_map line lines) (all 0 [] (omega arith))
    ∙ no_rest lines (λ i d lt. all (suc i) d (omega (arith, lt)))

-- ---- texts without line feed

pub OneLine-decimal : (n : ℕ) → n < 2 ^ 128 → OneLine (decimal n)
OneLine-decimal n small =
    let numeral = decimal_is_IsNumeral_wide n (omega arith) in
    All-from_get_or (λ b. b ≢ 10) (decimal n) 0 (λ i lt e. omega (arith, digit_at (decimal n) i numeral.0.1 lt, e))

pub OneLine_from : (text : List ℕ) → list_all (λ b. not (eqb b 10)) text ≡ true → OneLine text
OneLine_from text passes = All-weaker (λ b. not (eqb b 10) ≡ true) (λ b. b ≢ 10) (λ b is same. false≢true (sym (ap not (eq-eqb b 10 same)) ∙ is)) text (AllPass-from_list_all (λ b. not (eqb b 10)) text passes)

pub OneLine-append : (front back : List ℕ) → OneLine front → OneLine back → OneLine (front ++ back)
OneLine-append front back one two = All-append (λ b. b ≢ 10) front back one two

-- ---- words and what follows them

pub same_bytes : (xs ys : List ℕ) → bytes_eq xs ys ≡ true → xs ≡ ys
same_bytes xs ys is = (bytes_eq-Decides xs ys).0 is

pub bytes_eq-own : (xs : List ℕ) → bytes_eq xs xs ≡ true
bytes_eq-own xs = (bytes_eq-Decides xs xs).1 refl

kept_by : {A : Type 0} (b : Bool) (found : Option A) (x : A) → cond b found None ≡ Some x → (b ≡ true) × (found ≡ Some x)
kept_by true found x e = (refl, e)
kept_by false found x e = absurd cc

-- a text in front of which the word stands
pub word_in_front : (word text : List ℕ) → bytes_eq (take (length word) text) word ≡ true → text ≡ word ++ drop (length word) text
word_in_front word text is = sym (take-append-drop (length word) text) ∙ ap (λ (t : List ℕ). t ++ drop (length word) text) (same_bytes (take (length word) text) word is)

pub number_after-is : (word text : List ℕ) (n : ℕ) → number_after word text ≡ Some n → text ≡ word ++ decimal n
number_after-is word text n e =
    let parts = kept_by (bytes_eq (take (length word) text) word) (number_of (drop (length word) text)) n e in
    word_in_front word text parts.0 ∙ ap (λ (t : List ℕ). word ++ t) (spelling_of (drop (length word) text) n parts.1)

pub number_after-line : (word : List ℕ) (n : ℕ) → n < 2 ^ 128 → number_after word (word ++ decimal n) ≡ Some n
number_after-line word n small =
    rw (take_at word (decimal n) (length word) refl, drop_at word (decimal n) (length word) refl, bytes_eq-own word) (number_of-decimal n small)

some_is : {A : Type 0} (x y : A) → (let o : Option A = Some x in o) ≡ Some y → x ≡ y
some_is x y e = cc

pub after_word-is : (word text found : List ℕ) → after_word word text ≡ Some found → text ≡ word ++ found
after_word-is word text found e =
    let parts = kept_by (bytes_eq (take (length word) text) word) (Some (drop (length word) text)) found e in
    word_in_front word text parts.0 ∙ ap (λ (t : List ℕ). word ++ t) (some_is (drop (length word) text) found parts.1)

pub after_word-line : (word text : List ℕ) → after_word word (word ++ text) ≡ Some text
after_word-line word text =
    rw (take_at word text (length word) refl, drop_at word text (length word) refl, bytes_eq-own word) refl
