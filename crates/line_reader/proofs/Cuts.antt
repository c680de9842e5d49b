-- The first line feed, the part before it, and what a text without one is.
use Rattle.std.proofs.Common.{◌≡◌, ℕ, ◌+◌, ◌<◌, ◌≤◌, Bool, true, false, cond, ltb, eqb, List, [], ◌∷◌, length, take, drop, get_or, Option, Some, None, Ok, Err, refl, sym, ap, ◌∙◌, arith, inl, inr}
use Rattle.std.specs.List.{position, position_or_len}
use Rattle.std.proofs.lemmas.Bool.{cases_Bool, false_from_ne_true, lt-ltb, le-ltb, ne_eqb, eqb-true, ltb-true, ltb-false, cond-true}
use Rattle.std.proofs.lemmas.List.{nil_from_length}
use Rattle.std.proofs.lemmas.List.Elements.{All-from_get_or}
use Rattle.std.proofs.lemmas.List.Splits.{slice_split_first, slice_split_none}
use Rattle.std.proofs.lemmas.List.Sums.{fails_before_first, prefix_len-le-length, position_or_len_is}
use Rattle.memchr.specs.Find.{IsFirstByte}
use Rattle.form_terms.specs.TextLines.{parts_of, all_but_last, last_part, ended_lines, rest_of}
use Rattle.form_terms.specs.Forms.{place, fault, next_line}
use Rattle.form_terms.proofs.LineLaws.{parts_have, lines_and_rest}

first-le : {X : Type 0} (p : X → Bool) (xs : List X) → position_or_len p xs ≤ length xs
first-le p xs = prefix_len-le-length _ xs

no_place : {X : Type 0} (p : X → Bool) (xs : List X) → position p xs ≡ None → position_or_len p xs ≡ length xs
no_place p xs none =
    elim (cases_Bool (ltb (position_or_len p xs) (length xs))) [
      | inl is ↦ let found = cond-true (ltb (position_or_len p xs) (length xs)) (Some (position_or_len p xs)) None is in absurd (cc (found, none))
      | inr is_not ↦ omega (arith, ltb-false (position_or_len p xs) (length xs) is_not, first-le p xs)
    ]

place_is : (here : Bool) (first i : ℕ) → cond here (Some first) None ≡ Some i → (here ≡ true) × (first ≡ i)
place_is true first i is = (refl, cc)
place_is false first i is = absurd cc

some_place : {X : Type 0} (p : X → Bool) (xs : List X) (i : ℕ) → position p xs ≡ Some i → (i < length xs) × (position_or_len p xs ≡ i)
some_place p xs i found =
    let at = place_is (ltb (position_or_len p xs) (length xs)) (position_or_len p xs) i found in
    (omega (arith, ltb-true (position_or_len p xs) (length xs) at.0, at.1), at.1)

-- a byte that is found first, in the words of the search, stands at the first place
pub first_place : (test : ℕ → Bool) (bytes : List ℕ) (found : Option ℕ) → IsFirstByte test bytes found → found ≡ position test bytes
first_place test bytes None nowhere =
    let all : position_or_len test bytes ≡ length bytes = position_or_len_is test bytes (length bytes) 0 (omega arith) (λ k lt. false_from_ne_true (test (get_or bytes k 0)) (nowhere k (omega arith) lt)) (λ lt. absurd (omega (arith, lt))) in
    rw (all, le-ltb (length bytes) (length bytes) (omega arith)) refl
first_place test bytes (Some k) found =
    let at : position_or_len test bytes ≡ k = position_or_len_is test bytes k 0 (omega (arith, found.0.high)) (λ i lt. false_from_ne_true (test (get_or bytes i 0)) (found.0.before i (omega arith) lt)) (λ _. found.1) in
    rw (at, lt-ltb k (length bytes) found.0.high) refl

-- a text without line feed is the one part of itself
pub uncut : (bytes : List ℕ) → position (λ b. eqb b 10) bytes ≡ None → parts_of bytes ≡ bytes ∷ []
uncut bytes none =
    let all = no_place (λ b. eqb b 10) bytes none in
    slice_split_none (λ b. eqb b 10) bytes (All-from_get_or (λ b. eqb b 10 ≡ false) bytes 0 (λ k lt. fails_before_first (λ b. eqb b 10) bytes k 0 (omega arith)))

-- the first line feed ends the first part
pub cut_at : (bytes : List ℕ) (end : ℕ) → position (λ b. eqb b 10) bytes ≡ Some end → parts_of bytes ≡ take end bytes ∷ parts_of (drop (end + 1) bytes)
cut_at bytes end found =
    let at = some_place (λ b. eqb b 10) bytes end found in
    rw (← at.1) (slice_split_first (λ b. eqb b 10) bytes 0 (omega (arith, at.0, at.1)))

-- ---- what a cut says of the lines

pub lines_cut : (bytes text rest : List ℕ) → parts_of bytes ≡ text ∷ parts_of rest → (ended_lines bytes ≡ text ∷ ended_lines rest) × (rest_of bytes ≡ rest_of rest)
lines_cut bytes text rest cut =
    let some = parts_have rest in
    (ap all_but_last cut ∙ rw some.is refl, ap last_part cut ∙ rw some.is refl)

pub lines_uncut : (bytes : List ℕ) → parts_of bytes ≡ bytes ∷ [] → (ended_lines bytes ≡ []) × (rest_of bytes ≡ bytes)
lines_uncut bytes uncut = (ap all_but_last uncut, ap last_part uncut)

nil_both : {A B : Type 0} (xs : List A) (ys : List B) → eqb (length xs + length ys) 0 ≡ true → (xs ≡ []) × (ys ≡ [])
nil_both xs ys is =
    let none = eqb-true (length xs + length ys) 0 is in
    (nil_from_length xs (omega (arith, none)), nil_from_length ys (omega (arith, none)))

-- no byte is left exactly where there is no line and nothing behind the lines
pub over_test : (bytes : List ℕ) → eqb (length bytes) 0 ≡ eqb (length (ended_lines bytes) + length (rest_of bytes)) 0
over_test [] = refl
over_test (b ∷ bytes) = by (eqb (length (ended_lines (b ∷ bytes)) + length (rest_of (b ∷ bytes))) 0) refl
  where
    by : (none : Bool) → eqb (length (ended_lines (b ∷ bytes)) + length (rest_of (b ∷ bytes))) 0 ≡ none → eqb (length (b ∷ bytes)) 0 ≡ none
    by false is = ne_eqb (length (b ∷ bytes)) 0 (λ none. omega (arith, none))
    by true is =
        let both = nil_both (ended_lines (b ∷ bytes)) (rest_of (b ∷ bytes)) is in
        let whole : b ∷ bytes ≡ [] = sym (lines_and_rest (b ∷ bytes)) ∙ rw (both.0, both.1) refl in
        absurd cc

-- ---- what the next line is

pub read_line : {K : Type 0} (missing unended : K) (number : ℕ) (bytes text rest : List ℕ) → parts_of bytes ≡ text ∷ parts_of rest
    → next_line missing unended (place number (ended_lines bytes) (rest_of bytes)) ≡ Ok (text, place (number + 1) (ended_lines rest) (rest_of rest))
unfolding next_line
read_line missing unended number bytes text rest cut =
    let lines = lines_cut bytes text rest cut in
    rw (lines.0, lines.1) refl

pub no_line : {K : Type 0} (missing unended : K) (number : ℕ) (bytes : List ℕ) (none : Bool) → parts_of bytes ≡ bytes ∷ [] → none ≡ eqb (length bytes) 0
    → next_line missing unended (place number (ended_lines bytes) (rest_of bytes)) ≡ Err (fault (number + 1) (cond none missing unended))
unfolding next_line
no_line missing unended number bytes none uncut is =
    let lines = lines_uncut bytes uncut in
    rw (lines.0, lines.1, is) refl

pub fewer_lines : (bytes text rest : List ℕ) → parts_of bytes ≡ text ∷ parts_of rest → length (ended_lines rest) < length (ended_lines bytes)
fewer_lines bytes text rest cut = let lines = lines_cut bytes text rest cut in rw lines.0 (omega arith)
