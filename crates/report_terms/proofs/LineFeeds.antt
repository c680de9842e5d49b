-- A line feed behind the text of a value is white space to the reader.
use Rattle.std.proofs.Common.{◌≡◌, ℕ, Bool, true, false, List, [], ◌∷◌, ◌++◌, ◌&&◌, cond, refl, sym, ap, ap₂, ◌∙◌, append_assoc}
use Rattle.json.specs.Token.{Token, begin_object, end_object, begin_array, end_array, key, string, number, boolean, null, bad}
use Rattle.json.specs.Word.{ends_word, word}
use Rattle.json.specs.Lex.{token, comma, colon, string_token, lex, between, fresh, punctuate, tokens}
use Rattle.json.specs.Print.{escape, quoted, token_text, begins, ends, print_from, print, IsPrintable, ArePrintable}
use Rattle.json.proofs.Printed.Strings.{content-escape, lex-escape}
use Rattle.json.proofs.Printed.Numbers.{lex-number, in_word-ended}
use Rattle.json.proofs.Printed.Tokens.{tokens-print}

-- two texts of which a word may stand in front, and that go on alike
record GoOnAlike (r s : List ℕ) : Type 0 where
  same : lex between r ≡ lex between s
  one : ends_word r ≡ true
  other : ends_word s ≡ true

quoted_passed : (text rest : List ℕ) → lex between (quoted text ++ rest) ≡ token (string text) ∷ lex between rest
unfolding lex
quoted_passed text rest =
    ap (λ l. lex between (34 ∷ l)) (append_assoc (escape text) (34 ∷ []) rest) ∙ ap₂ (λ o l. token (string_token o) ∷ l) (content-escape text rest) (lex-escape text rest)

quoted_alike : (text r s : List ℕ) → lex between r ≡ lex between s → lex between (quoted text ++ r) ≡ lex between (quoted text ++ s)
quoted_alike text r s same = quoted_passed text r ∙ ap (λ l. token (string text) ∷ l) same ∙ sym (quoted_passed text s)

word_alike : (text r s : List ℕ) (t : Token) → GoOnAlike r s → ((x : List ℕ) → ends_word x ≡ true → lex between (text ++ x) ≡ token t ∷ lex between x) → lex between (text ++ r) ≡ lex between (text ++ s)
word_alike text r s t alike passed = passed r alike.one ∙ ap (λ l. token t ∷ l) alike.same ∙ sym (passed s alike.other)

true_passed : (rest : List ℕ) → ends_word rest ≡ true → lex between (token_text (boolean true) ++ rest) ≡ token (boolean true) ∷ lex between rest
unfolding lex word
true_passed rest ended = ap₂ (λ b l. token (cond b (boolean true) bad) ∷ l) ended (in_word-ended rest ended)

false_passed : (rest : List ℕ) → ends_word rest ≡ true → lex between (token_text (boolean false) ++ rest) ≡ token (boolean false) ∷ lex between rest
unfolding lex word
false_passed rest ended = ap₂ (λ b l. token (cond b (boolean false) bad) ∷ l) ended (in_word-ended rest ended)

null_passed : (rest : List ℕ) → ends_word rest ≡ true → lex between (token_text null ++ rest) ≡ token null ∷ lex between rest
unfolding lex word
null_passed rest ended = ap₂ (λ b l. token (cond b null bad) ∷ l) ended (in_word-ended rest ended)

token_alike : (t : Token) (r s : List ℕ) → IsPrintable t → (ends t ≡ true → GoOnAlike r s) → lex between r ≡ lex between s → lex between (token_text t ++ r) ≡ lex between (token_text t ++ s)
unfolding lex
token_alike begin_object r s h alike same = ap (λ l. token begin_object ∷ l) same
token_alike end_object r s h alike same = ap (λ l. token end_object ∷ l) same
token_alike begin_array r s h alike same = ap (λ l. token begin_array ∷ l) same
token_alike end_array r s h alike same = ap (λ l. token end_array ∷ l) same
token_alike (key text) r s h alike same =
    ap (lex between) (append_assoc (quoted text) (58 ∷ []) r) ∙ quoted_alike text (58 ∷ r) (58 ∷ s) (ap (λ l. colon ∷ l) same) ∙ sym (ap (lex between) (append_assoc (quoted text) (58 ∷ []) s))
token_alike (string text) r s h alike same = quoted_alike text r s same
token_alike (number text) r s h alike same = word_alike text r s (number text) (alike refl) (λ x ended. lex-number text x h ended)
token_alike (boolean true) r s h alike same = word_alike (token_text (boolean true)) r s (boolean true) (alike refl) true_passed
token_alike (boolean false) r s h alike same = word_alike (token_text (boolean false)) r s (boolean false) (alike refl) false_passed
token_alike null r s h alike same = word_alike (token_text null) r s null (alike refl) null_passed
token_alike bad r s h alike same = absurd h

separator_alike : (b : Bool) (r s : List ℕ) → lex between r ≡ lex between s → lex between (cond b (44 ∷ []) [] ++ r) ≡ lex between (cond b (44 ∷ []) [] ++ s)
unfolding lex
separator_alike true r s same = ap (λ l. comma ∷ l) same
separator_alike false r s same = same

-- after a value stands a comma, a closing bracket or nothing
after_value_ends : (ts : List Token) → ends_word (print_from true ts) ≡ true
unfolding print_from
after_value_ends [] = refl
after_value_ends (begin_object ∷ ts) = refl
after_value_ends (end_object ∷ ts) = refl
after_value_ends (begin_array ∷ ts) = refl
after_value_ends (end_array ∷ ts) = refl
after_value_ends (key s ∷ ts) = refl
after_value_ends (string s ∷ ts) = refl
after_value_ends (number s ∷ ts) = refl
after_value_ends (boolean b ∷ ts) = refl
after_value_ends (null ∷ ts) = refl
after_value_ends (bad ∷ ts) = refl

-- and the same where a line feed follows
then_line_ends : (ts : List Token) → ends_word (print_from true ts ++ 10 ∷ []) ≡ true
unfolding print_from
then_line_ends [] = refl
then_line_ends (begin_object ∷ ts) = refl
then_line_ends (end_object ∷ ts) = refl
then_line_ends (begin_array ∷ ts) = refl
then_line_ends (end_array ∷ ts) = refl
then_line_ends (key s ∷ ts) = refl
then_line_ends (string s ∷ ts) = refl
then_line_ends (number s ∷ ts) = refl
then_line_ends (boolean b ∷ ts) = refl
then_line_ends (null ∷ ts) = refl
then_line_ends (bad ∷ ts) = refl

regroup : (a b c d : List ℕ) → (a ++ (b ++ c)) ++ d ≡ a ++ (b ++ (c ++ d))
regroup a b c d = append_assoc a (b ++ c) d ∙ ap (λ l. a ++ l) (append_assoc b c d)

line_passed : (c : Bool) (ts : List Token) → ArePrintable ts → lex between (print_from c ts ++ 10 ∷ []) ≡ lex between (print_from c ts)
unfolding lex print_from ArePrintable
line_passed c [] h = refl
line_passed c (t ∷ ts) h =
    let rest = print_from (ends t) ts in
    let same : lex between (rest ++ 10 ∷ []) ≡ lex between rest = line_passed (ends t) ts h.1 in
    ap (lex between) (regroup (cond (c && begins t) (44 ∷ []) []) (token_text t) rest (10 ∷ []))
    ∙ separator_alike (c && begins t) (token_text t ++ (rest ++ 10 ∷ [])) (token_text t ++ rest)
    (token_alike t (rest ++ 10 ∷ []) rest h.0 (λ e. record { same = same; one = ap (λ b. ends_word (print_from b ts ++ 10 ∷ [])) e ∙ then_line_ends ts; other = ap (λ b. ends_word (print_from b ts)) e ∙ after_value_ends ts }) same)

-- the tokens of a printed text, and a line feed
pub tokens-line : (ts : List Token) → ArePrintable ts → tokens (print ts ++ 10 ∷ []) ≡ ts
tokens-line ts h = ap (punctuate fresh) (line_passed false ts h) ∙ tokens-print ts h
