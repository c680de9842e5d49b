-- What the rules on names imply.
use Rattle.std.proofs.Common.{◌≡◌, ◌≢◌, ℕ, ◌<◌, ◌≤◌, Bool, true, false, ◌&&◌, nat_le, List, [], ◌∷◌, length, All, refl, arith}
use Rattle.std.specs.List.{list_all}
use Rattle.std.proofs.lemmas.Bool.{leb-true, le-leb}
use Rattle.std.proofs.lemmas.Bool.Decides.{nat_tests}
use Rattle.std.proofs.lemmas.List.Sums.{AllPass-from_list_all}
use Rattle.text_terms.specs.Names.{is_printable, is_name, is_plain_character, is_plain}

both : (a b : Bool) → (a && b) ≡ true → (a ≡ true) × (b ≡ true)
both true b is = (refl, is)
both false b is = cc

joins : (a b : Bool) → a ≡ true → b ≡ true → (a && b) ≡ true
joins true b a_true b_true = b_true
joins false b a_true b_true = a_true

-- what a name has
pub record HasNameForm (text : List ℕ) : Type 0 where
  pub some : 1 ≤ length text
  pub most : length text ≤ 1024
  pub printable : list_all is_printable text ≡ true

pub name_form : (text : List ℕ) → is_name text ≡ true → HasNameForm text
name_form text is =
    let parts = both (nat_le 1 (length text)) (nat_le (length text) 1024 && list_all is_printable text) is in
    let rest = both (nat_le (length text) 1024) (list_all is_printable text) parts.1 in
    record { some = leb-true 1 (length text) parts.0; most = leb-true (length text) 1024 rest.0; printable = rest.1 }

-- what a plain name has
pub record HasPlainForm (text : List ℕ) : Type 0 where
  pub some : 1 ≤ length text
  pub most : length text ≤ 64
  pub characters : list_all is_plain_character text ≡ true

pub plain_form : (text : List ℕ) → is_plain text ≡ true → HasPlainForm text
plain_form text is =
    let parts = both (nat_le 1 (length text)) (nat_le (length text) 64 && list_all is_plain_character text) is in
    let rest = both (nat_le (length text) 64) (list_all is_plain_character text) parts.1 in
    record { some = leb-true 1 (length text) parts.0; most = leb-true (length text) 64 rest.0; characters = rest.1 }

-- a character of a plain name is an ASCII one that can be seen
pub plain_character : (b : ℕ) → is_plain_character b ≡ true → (33 ≤ b) × (b < 127)
plain_character b is = grind (arith, nat_tests)

plain_printable : (b : ℕ) → is_plain_character b ≡ true → is_printable b ≡ true
plain_printable b is = grind (arith, nat_tests)

all_printable : (text : List ℕ) → list_all is_plain_character text ≡ true → list_all is_printable text ≡ true
all_printable [] is = refl
all_printable (b ∷ bs) is =
    let parts = both (is_plain_character b) (list_all is_plain_character bs) is in
    joins (is_printable b) (list_all is_printable bs) (plain_printable b parts.0) (all_printable bs parts.1)

-- a plain name is a name
pub plain_is_name : (text : List ℕ) → is_plain text ≡ true → is_name text ≡ true
plain_is_name text is =
    let form = plain_form text is in
    joins (nat_le 1 (length text)) (nat_le (length text) 1024 && list_all is_printable text) (le-leb 1 (length text) form.some)
    (joins (nat_le (length text) 1024) (list_all is_printable text) (le-leb (length text) 1024 (omega (arith, form.most))) (all_printable text form.characters))

printable_byte : (b : ℕ) → is_printable b ≡ true → 32 ≤ b
printable_byte b is = grind (arith, nat_tests)

printable_below : (b : ℕ) → is_printable b ≡ true → b ≢ 127
printable_below b is = grind (arith, nat_tests)

-- a name has no control character, and so no line feed
pub name_bytes : (text : List ℕ) → is_name text ≡ true → All (λ b. 32 ≤ b) text
name_bytes text is k d inside = printable_byte _ (AllPass-from_list_all is_printable text (name_form text is).printable k d inside)

pub name_no_control : (text : List ℕ) → is_name text ≡ true → All (λ b. (32 ≤ b) × (b ≢ 127)) text
name_no_control text is k d inside =
    let printable = AllPass-from_list_all is_printable text (name_form text is).printable k d inside in
    (printable_byte _ printable, printable_below _ printable)

pub name_no_line_feed : (text : List ℕ) → is_name text ≡ true → All (λ b. b ≢ 10) text
name_no_line_feed text is k d inside = λ e. omega (arith, name_bytes text is k d inside, e)

pub plain_no_line_feed : (text : List ℕ) → is_plain text ≡ true → All (λ b. b ≢ 10) text
plain_no_line_feed text is = name_no_line_feed text (plain_is_name text is)

-- each byte of a plain name is a seen ASCII character
pub plain_bytes : (text : List ℕ) → is_plain text ≡ true → All (λ b. (33 ≤ b) × (b < 127)) text
plain_bytes text is k d inside = plain_character _ (AllPass-from_list_all is_plain_character text (plain_form text is).characters k d inside)
