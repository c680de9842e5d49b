-- Bytes that are no text, and places in lists.
use Rattle.std.proofs.Common.{◌≡◌, ◌≢◌, ◌∙◌, sym, ℕ, ◌+◌, ◌<◌, ◌≤◌, Bool, true, false, cond, eqb, Some, None, List, ◌∷◌, ◌++◌, length, get_or, take, drop, refl, arith}
use Rattle.std.specs.Prelude.{nat_lt}
use Rattle.std.specs.List.{position, position_or_len, before_first, after_first}
use Rattle.std.specs.Str.{is_utf8, IsUtf8}
use Rattle.std.proofs.lemmas.Bool.{eqb-true, eq-eqb, ltb-true, ltb-false}
use Rattle.std.proofs.lemmas.List.{length-take, get_or-take}
use Rattle.std.proofs.lemmas.List.Elements.{All-from_get_or}
use Rattle.std.proofs.lemmas.List.Sums.{fails_before_first, split_at_first, passes_at_first}
use Rattle.std.proofs.lemmas.Str.{IsUtf8-from_is_utf8}
use Rattle.m3u8_text.specs.Readers.{IsOneLine}

false_unless : (b : Bool) → (b ≡ true → ⊥) → b ≡ false
false_unless true refuted = absurd (refuted refl)
false_unless false refuted = refl

pub no_utf8 : (bytes : List ℕ) → (IsUtf8 bytes → ⊥) → is_utf8 bytes ≡ false
no_utf8 bytes refuted = false_unless (is_utf8 bytes) (λ is. refuted (IsUtf8-from_is_utf8 bytes is))

-- ---- places in lists

first_of : (here : Bool) (first i : ℕ) → cond here (Some first) None ≡ Some i → (here ≡ true) × (first ≡ i)
first_of true first i is = (refl, cc)
first_of false first i is = absurd cc

none_of : (here : Bool) (first : ℕ) → cond here (Some first) None ≡ None → here ≡ false
none_of true first is = absurd cc
none_of false first is = refl

-- no line feed stands where none is found
pub no_feed : (bytes : List ℕ) → position (λ b. eqb b 10) bytes ≡ None → IsOneLine bytes
no_feed bytes none =
    let past = none_of (nat_lt (position_or_len (λ b. eqb b 10) bytes) (length bytes)) (position_or_len (λ b. eqb b 10) bytes) none in
    let all : length bytes ≤ position_or_len (λ b. eqb b 10) bytes = ltb-false (position_or_len (λ b. eqb b 10) bytes) (length bytes) past in
    All-from_get_or (λ b. b ≢ 10) bytes 0 (λ k inside e. cc (fails_before_first (λ b. eqb b 10) bytes k 0 (omega (arith, all, inside)), eq-eqb (get_or bytes k 0) 10 e))

one_before : (bytes : List ℕ) → IsOneLine (before_first (λ b. eqb b 10) bytes)
one_before bytes =
    let p : ℕ → Bool = λ b. eqb b 10 in
    let size : ℕ = position_or_len p bytes in
    All-from_get_or (λ b. b ≢ 10) (before_first p bytes) 0 (λ k inside e.
    let near : k < size = omega (arith, inside, length-take size bytes) in
    cc (fails_before_first p bytes k 0 near, eq-eqb (get_or bytes k 0) 10 (sym (get_or-take size bytes k 0 near) ∙ e)))

pub record IsFed (bytes : List ℕ) (place : ℕ) : Type 0 where
  pub inside : place < length bytes
  pub whole : bytes ≡ take place bytes ++ 10 ∷ drop (place + 1) bytes
  pub one : IsOneLine (take place bytes)

-- the first line feed
pub first_feed : (bytes : List ℕ) (place : ℕ) → position (λ b. eqb b 10) bytes ≡ Some place → IsFed bytes place
first_feed bytes place found =
    let p : ℕ → Bool = λ b. eqb b 10 in
    let at = first_of (nat_lt (position_or_len p bytes) (length bytes)) (position_or_len p bytes) place found in
    let inside : position_or_len p bytes < length bytes = ltb-true (position_or_len p bytes) (length bytes) at.0 in
    let feed : get_or bytes (position_or_len p bytes) 0 ≡ 10 = eqb-true (get_or bytes (position_or_len p bytes) 0) 10 (passes_at_first p bytes 0 inside) in
    let parts : bytes ≡ before_first p bytes ++ (get_or bytes (position_or_len p bytes) 0 ∷ after_first p bytes) = split_at_first p bytes 0 inside in
    record {
      inside = omega (arith, inside, at.1);
      whole = parts ∙ (λ i. take (at.1 i) bytes ++ (feed i ∷ drop (at.1 i + 1) bytes));
      one = rw (← at.1) (one_before bytes);
    }
