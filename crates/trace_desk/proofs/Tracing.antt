-- From what decoding found to what the desk answers.
use Rattle.std.proofs.Common.{◌≡◌, ◌≢◌, ℕ, ◌+◌, ◌-◌, ◌*◌, ◌^◌, ◌<◌, ◌≤◌, Bool, true, false, List, Result, length, All, AllPairs, Contains, IsPermutation, Option, Ok, Err, refl, sym, ap, ◌∙◌, subst, arith}
use Rattle.std.specs.Prelude.{nat_lt, if◌then◌else◌}
use Rattle.std.specs.List.{range_with_len}
use Rattle.std.specs.List.Sorted.{IsNonDecreasingBy}
use Rattle.std.proofs.lemmas.Nat.{mul-le}
use Rattle.std.proofs.Math.Nat.{mul-le-mul_left, mul-le-mul_right}
use Rattle.std.proofs.lemmas.List.Elements.{All-filter, filter_passes}
use Rattle.std.proofs.lemmas.List.FromFn.{length-range_with_len, get_or-range_with_len}
use Rattle.std.proofs.lemmas.List.Kept.{AllPairs-filter}
use Rattle.code_terms.specs.Words.{readable}
use Rattle.decoding_terms.specs.Parameters.{is_allowed_bound}
use Rattle.decoder_terms.specs.Bounds.{root_bound}
use Rattle.decoder_terms.specs.Decoding.{not_enough}
use Rattle.pair_terms.specs.Pairs.{Pair, pairs_of}
use Rattle.pair_terms.specs.Recovery.{fits_enough, recovered, recovery_bound}
use Rattle.pair_terms.proofs.WordPairs.{count_of}
use Rattle.desk_terms.specs.Bounds.{tracing_bound}
use Rattle.desk_terms.specs.declared.findings.Accused.{Accused}
use Rattle.desk_terms.specs.declared.findings.Findings.{Findings}
use Rattle.desk_terms.specs.Findings.{findings}
use Rattle.desk_terms.specs.Roll.{Roll, IsRoll}
use Rattle.list_decode.specs.declared.decode_error.DecodeError.TheVariants as decoder
use Rattle.list_decode.specs.Answers.{recovering}
use Rattle.list_decode.proofs.Bounds.{fewer_roots}
use Rattle.list_decode.proofs.Kept.{Contains-filter}
use Rattle.trace_desk.specs.declared.desk_error.DeskError.TheVariants.{BadBound, TooFew, Memory}
use Rattle.merge_terms.specs.Bounds.{merged_bound}
use Rattle.merge_terms.specs.Merged.{accused_by}
use Rattle.merge_terms.proofs.Words.{merged_word}
use Rattle.trace_desk.specs.declared.desk_error.DeskError.{DeskError}
use Rattle.trace_desk.specs.Answers.{AccusesAs, TracesAs, tracing, accusing}
use Rattle.trace_desk.specs.Known.{AreKnown, serial_of}
use Rattle.trace_desk.proofs.InOrder.{sorted_findings}

-- ---- what was decoded

record IsDone (m k : ℕ) (pairs : List Pair) (c : ℕ) (messages : List ℕ) : Type 0 where
  allowed : is_allowed_bound k c ≡ true
  enough : nat_lt (not_enough k c) (length pairs) ≡ true
  messages_are : messages ≡ recovered m k pairs c

done_by : {A E : Type 0} (allowed enough : Bool) (x y : A) (few bad : E) → (if allowed then (if enough then Ok x else Err few) else Err bad) ≡ Ok y → (allowed ≡ true) × (enough ≡ true) × (y ≡ x)
done_by true true x y few bad is = (refl, refl, cc)
done_by true false x y few bad is = cc
done_by false enough x y few bad is = cc

decoding_done : (m k : ℕ) (pairs : List Pair) (c : ℕ) (messages : List ℕ) → recovering m k pairs c ≡ Ok messages → IsDone m k pairs c messages
decoding_done m k pairs c messages is =
    let done = done_by (is_allowed_bound k c) (nat_lt (not_enough k c) (length pairs)) (recovered m k pairs c) messages (decoder.TooFew (length pairs)) decoder.BadBound is in
    record { allowed = done.0; enough = done.1; messages_are = done.2 }

recovered_fit : (m k : ℕ) (pairs : List Pair) (c : ℕ) → All (λ u. (u < 2 ^ (m * k)) × (fits_enough m k pairs c u ≡ true)) (recovered m k pairs c)
unfolding recovered
recovered_fit m k pairs c i d l =
    let n : ℕ = 2 ^ (m * k) in
    let long : length (range_with_len 0 n) ≡ n = length-range_with_len 0 n in (
      All-filter (fits_enough m k pairs c) (λ u. u < n) (range_with_len 0 n) (λ j e inside. omega (arith, get_or-range_with_len 0 n j e (omega arith))) i d l,
      filter_passes (fits_enough m k pairs c) (range_with_len 0 n) i d l,
    )

recovered_every : (m k : ℕ) (pairs : List Pair) (c u : ℕ) → u < 2 ^ (m * k) → fits_enough m k pairs c u ≡ true → Contains (recovered m k pairs c) u
unfolding recovered
recovered_every m k pairs c u below meets =
    let n : ℕ = 2 ^ (m * k) in
    let long : length (range_with_len 0 n) ≡ n = length-range_with_len 0 n in
    Contains-filter (fits_enough m k pairs c) (range_with_len 0 n) u (u, omega arith, get_or-range_with_len 0 n u u below ∙ omega arith) meets

recovered_apart : (m k : ℕ) (pairs : List Pair) (c : ℕ) → AllPairs (λ u v. u ≢ v) (recovered m k pairs c)
unfolding recovered
recovered_apart m k pairs c =
    let n : ℕ = 2 ^ (m * k) in
    let long : length (range_with_len 0 n) ≡ n = length-range_with_len 0 n in
    AllPairs-filter (λ u v. u ≢ v) (fits_enough m k pairs c) (range_with_len 0 n) (λ i j d l within.
    let first = get_or-range_with_len 0 n i d (omega arith) in
    let second = get_or-range_with_len 0 n j d (omega arith) in
    λ same. omega arith)

pub messages_below : (m k : ℕ) (pairs : List Pair) (c : ℕ) (messages given : List ℕ) → recovering m k pairs c ≡ Ok messages → given ≡ messages → All (λ u. u < 2 ^ (m * k)) given
messages_below m k pairs c messages given is same =
    subst (λ (us : List ℕ). All (λ u. u < 2 ^ (m * k)) us) (sym (same ∙ (decoding_done m k pairs c messages is).messages_are)) (λ i d l. (recovered_fit m k pairs c i d l).0)

pub messages_apart : (m k : ℕ) (pairs : List Pair) (c : ℕ) (messages given : List ℕ) → recovering m k pairs c ≡ Ok messages → given ≡ messages → AllPairs (λ u v. u ≢ v) given
messages_apart m k pairs c messages given is same =
    subst (λ (us : List ℕ). AllPairs (λ u v. u ≢ v) us) (sym (same ∙ (decoding_done m k pairs c messages is).messages_are)) (recovered_apart m k pairs c)

-- ---- what is answered

granted : {A E : Type 0} (allowed enough : Bool) (x : A) (few bad : E) → allowed ≡ true → enough ≡ true → (if allowed then (if enough then Ok x else Err few) else Err bad) ≡ Ok x
granted true true x few bad a e = refl
granted true false x few bad a e = cc
granted false enough x few bad a e = cc

the_accused : (roll : Roll) (kept : IsRoll roll) (pairs : List Pair) (c : ℕ) (given : List ℕ) (accused sorted : List Accused) → given ≡ recovered roll.bits roll.dimension pairs c
    → AreKnown roll pairs given accused → IsPermutation accused sorted → IsNonDecreasingBy serial_of sorted → sorted ≡ accused_by roll pairs c
unfolding accused_by
the_accused roll kept pairs c given accused sorted are known shuffled up =
    let m : ℕ = roll.bits in
    let k : ℕ = roll.dimension in
    sorted_findings roll kept pairs c given (subst (λ (us : List ℕ). All (λ u. (u < 2 ^ (m * k)) × (fits_enough m k pairs c u ≡ true)) us) (sym are) (recovered_fit m k pairs c))
    (λ u below meets. subst (λ (us : List ℕ). Contains us u) (sym are) (recovered_every m k pairs c u below meets)) accused sorted known shuffled up

pub traced : (roll : Roll) → IsRoll roll → (pairs : List Pair) (c : ℕ) (messages given : List ℕ) (accused sorted list : List Accused)
    → recovering roll.bits roll.dimension pairs c ≡ Ok messages → given ≡ messages → AreKnown roll pairs given accused → IsPermutation accused sorted → IsNonDecreasingBy serial_of sorted
    → list ≡ sorted → accusing roll pairs c ≡ Ok list
traced roll kept pairs c messages given accused sorted list is same known shuffled up same_list =
    let done = decoding_done roll.bits roll.dimension pairs c messages is in
    let found = the_accused roll kept pairs c given accused sorted (same ∙ done.messages_are) known shuffled up in
    granted (is_allowed_bound roll.dimension c) (nat_lt (not_enough roll.dimension c) (length pairs)) (accused_by roll pairs c) (TooFew (length pairs)) BadBound done.allowed done.enough
    ∙ ap (λ (f : List Accused). Ok f) (sym found ∙ sym same_list)

-- ---- a word is the case of its pairs

-- what is answered about the word, where those who are accused over its pairs are told
abbrev with_numbers : ℕ → ℕ → Result (List Accused) DeskError → Result Findings DeskError
with_numbers r c (Ok list) = Ok (record { readable = r; bound = c; accused = list })
with_numbers r c (Err why) = Err why

numbered : (allowed enough : Bool) (r c : ℕ) (list : List Accused) (few bad : DeskError)
    → with_numbers r c (if allowed then (if enough then Ok list else Err few) else Err bad) ≡ (if allowed then (if enough then Ok (record { readable = r; bound = c; accused = list }) else Err few) else Err bad)
numbered true true r c list few bad = refl
numbered true false r c list few bad = refl
numbered false enough r c list few bad = refl

findings_made : (roll : Roll) (word : List (Option ℕ)) (c : ℕ) → record { readable = readable word; bound = c; accused = (findings roll word c).accused } ≡ findings roll word c
unfolding findings
findings_made roll word c = refl

word_answer : (roll : Roll) (word : List (Option ℕ)) (c : ℕ) → with_numbers (readable word) c (accusing roll (pairs_of word) c) ≡ tracing roll word c
word_answer roll word c =
    numbered (is_allowed_bound roll.dimension c) (nat_lt (not_enough roll.dimension c) (length (pairs_of word))) (readable word) c (accused_by roll (pairs_of word) c) (TooFew (length (pairs_of word))) BadBound
    ∙ ap (λ r. if is_allowed_bound roll.dimension c then (if nat_lt (not_enough roll.dimension c) r then Ok (record { readable = readable word; bound = c; accused = accused_by roll (pairs_of word) c }) else Err (TooFew r)) else Err BadBound) (count_of word)
    ∙ ap (λ (list : List Accused). if is_allowed_bound roll.dimension c then (if nat_lt (not_enough roll.dimension c) (readable word) then Ok (record { readable = readable word; bound = c; accused = list }) else Err (TooFew (readable word))) else Err BadBound) (merged_word roll word c)
    ∙ ap (λ (f : Findings). if is_allowed_bound roll.dimension c then (if nat_lt (not_enough roll.dimension c) (readable word) then Ok f else Err (TooFew (readable word))) else Err BadBound) (findings_made roll word c)

pub word_found : (roll : Roll) (word : List (Option ℕ)) (pairs : List Pair) (c r : ℕ) (list : List Accused) → pairs ≡ pairs_of word → r ≡ readable word → accusing roll pairs c ≡ Ok list
    → tracing roll word c ≡ Ok (record { readable = r; bound = c; accused = list })
word_found roll word pairs c r list are count told =
    sym (word_answer roll word c)
    ∙ ap (λ (ps : List Pair). with_numbers (readable word) c (accusing roll ps c)) (sym are)
    ∙ ap (with_numbers (readable word) c) told
    ∙ ap (λ n. Ok (record { readable = n; bound = c; accused = list })) (sym count)

pub word_refused : (roll : Roll) (word : List (Option ℕ)) (pairs : List Pair) (c : ℕ) (why : DeskError) → pairs ≡ pairs_of word → accusing roll pairs c ≡ Err why → tracing roll word c ≡ Err why
word_refused roll word pairs c why are told =
    sym (word_answer roll word c)
    ∙ ap (λ (ps : List Pair). with_numbers (readable word) c (accusing roll ps c)) (sym are)
    ∙ ap (with_numbers (readable word) c) told

-- ---- how many products that takes

-- the places of so few messages take no more products than the roots may, since no field has more than 256 elements
places_few : (r n k c count : ℕ) → n ≤ 256 → count < r + c → count * (n * k) ≤ root_bound r k c
places_few r n k c count most few =
    let a : ℕ = r + c in
    let places : n * k ≤ 256 * k = mul-le-mul_right k most in
    let one : 256 * k * 1 ≤ 256 * k * a = mul-le-mul_left (256 * k) (omega arith) in
    let all : count * (n * k) ≤ a * (256 * k * a) = mul-le count (n * k) a (256 * k * a) (omega arith) (omega arith) in
    let turned : a * (256 * k * a) ≡ k * (a * a) * 256 = omega arith in
    let times : k * (a * a) * 256 ≤ k * (a * a) * (256 + (k - 1) * (a * a)) = mul-le-mul_left (k * (a * a)) (omega arith) in
    omega arith

pub products_enough : (r n k c curve count start decoded known : ℕ) → n ≤ 256 → count < r + c → decoded ≤ start + recovery_bound curve r n k c → known ≤ decoded + count * (n * k) → known ≤ start + merged_bound curve r n k c
products_enough r n k c curve count start decoded known most few first second =
    let places = places_few r n k c count most few in
    omega arith

-- fewer pairs take no more
pub fewer_enough : (curve r n k c : ℕ) → r ≤ n → merged_bound curve r n k c ≤ tracing_bound curve n k c
fewer_enough curve r n k c few =
    let roots : root_bound r k c ≤ root_bound n k c = fewer_roots r n k c few in
    let ends : (r + c) * n * k ≤ (n + c) * n * k = mul-le-mul_right k (mul-le-mul_right n (omega arith)) in
    omega arith

pub word_error : (roll : Roll) (word : List (Option ℕ)) (pairs : List Pair) (c : ℕ) (why : DeskError) → pairs ≡ pairs_of word → AccusesAs (Err why) (accusing roll pairs c) → TracesAs (Err why) (tracing roll word c)
word_error roll word pairs c BadBound are told = word_refused roll word pairs c BadBound are told
word_error roll word pairs c (TooFew r) are told = word_refused roll word pairs c (TooFew r) are told
word_error roll word pairs c Memory are told = told
