-- What follows of the places where a message and a word agree.
use Rattle.std.proofs.Common.{◌≡◌, ℕ, zero, suc, ◌+◌, ◌<◌, ◌≤◌, Bool, true, false, All, None, take, is_some, subst, List, [], ◌∷◌, ◌++◌, length, Option, Some, cond, refl, sym, ap, ◌∙◌, add-one, zero-add, arith}
use Rattle.std.specs.List.{count_by, filter, range_with_len}
use Rattle.std.proofs.lemmas.List.FromFn.{length-range_with_len, get_or-range_with_len, map-range_with_len_more, length-map-range_with_len}
use Rattle.std.specs.List.Sorted.{IsStrictlyIncreasing}
use Rattle.std.proofs.Math.Seq.{take-length}
use Rattle.std.proofs.lemmas.List.Kept.{IsStrictlyIncreasing-filter}
use Rattle.std.proofs.lemmas.List.Elements.{filter-append, All-filter}
use Rattle.std.proofs.lemmas.List.Sums.{count_by_more_yes, count_by_more_no, count_by-le-length}
use Rattle.std.proofs.lemmas.List.{append-nil, length_push}
use Rattle.code_terms.specs.Symbols.{symbol_of}
use Rattle.code_terms.specs.Words.{readable, slot_at, holds_symbol, agrees, places_of, agreement_of, codeword_of}

range_more : (a n j : ℕ) → a + n ≡ j → range_with_len a (suc n) ≡ range_with_len a n ++ j ∷ []
range_more a zero j e = ap (λ x. x ∷ []) (omega arith)
range_more a (suc n) j e = ap (λ xs. a ∷ xs) (range_more (a + 1) n j (omega arith))

-- the agreeing places below n
unfoldable pub places_below : (m k u : ℕ) → List (Option ℕ) → ℕ → List ℕ
places_below m k u word n = filter (agrees m k u word) (range_with_len 0 n)

pub places_below-none : (m k u : ℕ) (word : List (Option ℕ)) → places_below m k u word 0 ≡ []
unfolding places_below
places_below-none m k u word = refl

pub places_below-more : (m k u : ℕ) (word : List (Option ℕ)) (n : ℕ) → places_below m k u word (n + 1) ≡ places_below m k u word n ++ cond (agrees m k u word n) (n ∷ []) []
unfolding places_below
places_below-more m k u word n = ap (filter (agrees m k u word)) (rw add-one (range_more 0 n n (zero-add n))) ∙ filter-append (agrees m k u word) (range_with_len 0 n) (n ∷ [])

pub places_below-all : (m k u : ℕ) (word : List (Option ℕ)) (n : ℕ) → length word ≡ n → places_below m k u word n ≡ places_of m k u word
unfolding places_below places_of
places_below-all m k u word n is = ap (λ n. filter (agrees m k u word) (range_with_len 0 n)) (sym is)

-- one more symbol of a codeword
pub codeword_of-more : (m k u n : ℕ) → codeword_of m k u (n + 1) ≡ codeword_of m k u n ++ Some (symbol_of m k u n) ∷ []
unfolding codeword_of
codeword_of-more m k u n = map-range_with_len_more (λ i. Some (symbol_of m k u i)) 0 n n (zero-add n)

pub codeword_of-none : (m k u : ℕ) → codeword_of m k u 0 ≡ []
unfolding codeword_of
codeword_of-none m k u = refl

pub length-places_below-hit : (m k u : ℕ) (word : List (Option ℕ)) (n : ℕ) → agrees m k u word n ≡ true → length (places_below m k u word (n + 1)) ≡ length (places_below m k u word n) + 1
length-places_below-hit m k u word n hit =
    ap length (places_below-more m k u word n ∙ ap (λ b. places_below m k u word n ++ cond b (n ∷ []) []) hit) ∙ length_push (places_below m k u word n) n

pub length-places_below-miss : (m k u : ℕ) (word : List (Option ℕ)) (n : ℕ) → agrees m k u word n ≡ false → length (places_below m k u word (n + 1)) ≡ length (places_below m k u word n)
length-places_below-miss m k u word n miss =
    ap length (places_below-more m k u word n ∙ ap (λ b. places_below m k u word n ++ cond b (n ∷ []) []) miss ∙ append-nil (places_below m k u word n))

pub length-places_below-all : (m k u : ℕ) (word : List (Option ℕ)) (n : ℕ) → length word ≡ n → length (places_below m k u word n) ≡ agreement_of m k u word
unfolding agreement_of
length-places_below-all m k u word n is = ap length (places_below-all m k u word n is)

pub length-codeword_of : (m k u n : ℕ) → length (codeword_of m k u n) ≡ n
unfolding codeword_of
length-codeword_of m k u n = length-map-range_with_len (λ i. Some (symbol_of m k u i)) 0 n

-- ---- what the places are

pub places_of-within : (m k u : ℕ) (word : List (Option ℕ)) → All (λ i. i < length word) (places_of m k u word)
unfolding places_of
places_of-within m k u word =
    let n : ℕ = length word in
    All-filter (agrees m k u word) (λ i. i < n) (range_with_len 0 n)
    (λ j d inside. let long : length (range_with_len 0 n) ≡ n = length-range_with_len 0 n in omega (arith, get_or-range_with_len 0 n j d (omega arith)))

increasing_range : (a n : ℕ) → IsStrictlyIncreasing (range_with_len a n)
increasing_range a n k within =
    let long : length (range_with_len a n) ≡ n = length-range_with_len a n in
    omega (arith, get_or-range_with_len a n k 0 (omega arith), get_or-range_with_len a n (k + 1) 0 (omega arith))

pub places_of-ascending : (m k u : ℕ) (word : List (Option ℕ)) → IsStrictlyIncreasing (places_of m k u word)
unfolding places_of
places_of-ascending m k u word = IsStrictlyIncreasing-filter (agrees m k u word) (range_with_len 0 (length word)) (increasing_range 0 (length word))

holds_some : (slot : Option ℕ) (v : ℕ) → holds_symbol slot v ≡ true → is_some slot ≡ true
holds_some None v is = is
holds_some (Some w) v is = refl

-- among the first n places no more agree than are readable
few : (m k u : ℕ) (word : List (Option ℕ)) (n : ℕ) → n ≤ length word → length (places_below m k u word n) ≤ count_by is_some (take n word)
few m k u word zero within = omega (arith, ap length (places_below-none m k u word))
few m k u word (suc n) within =
    let on : n + 1 ≡ suc n = omega arith in
    subst (λ t. length (places_below m k u word t) ≤ count_by is_some (take t word)) on (by (few m k u word n (omega arith)) (agrees m k u word n) refl)
  where
    more : (some : Bool) → is_some (slot_at word n) ≡ some → count_by is_some (take n word) ≤ count_by is_some (take (n + 1) word)
    more true readable_here = omega (arith, count_by_more_yes is_some word n None (omega arith) readable_here)
    more false no_symbol = omega (arith, count_by_more_no is_some word n None (omega arith) no_symbol)

    by : length (places_below m k u word n) ≤ count_by is_some (take n word) → (test : Bool) → agrees m k u word n ≡ test → length (places_below m k u word (n + 1)) ≤ count_by is_some (take (n + 1) word)
    by before true hit = omega (arith, before, length-places_below-hit m k u word n hit, count_by_more_yes is_some word n None (omega arith) (holds_some (slot_at word n) (symbol_of m k u n) hit))
    by before false miss = omega (arith, before, length-places_below-miss m k u word n miss, more (is_some (slot_at word n)) refl)

pub agreement_of-few : (m k u : ℕ) (word : List (Option ℕ)) → agreement_of m k u word ≤ readable word
agreement_of-few m k u word =
    let all : length (places_below m k u word (length word)) ≡ agreement_of m k u word = length-places_below-all m k u word (length word) refl in
    let whole : count_by is_some (take (length word) word) ≡ readable word = ap (count_by is_some) (take-length word) in
    omega (arith, few m k u word (length word) (omega arith))

pub readable-few : (word : List (Option ℕ)) → readable word ≤ length word
readable-few word = count_by-le-length is_some word
