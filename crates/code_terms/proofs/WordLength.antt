-- How many places the word of a text has: at least one, and at most as many as there are symbols.
use Rattle.std.proofs.Common.{◌≡◌, ℕ, suc, ◌+◌, ◌^◌, ◌≤◌, List, [], ◌∷◌, length, Bool, true, false, cond, Option, None, Some, Result, Ok, Err, refl, sym, ap, arith, nat_le, nat_eq}
use Rattle.std.proofs.lemmas.Bool.Decides.{nat_tests}
use Rattle.std.proofs.lemmas.List.Splits.{length-slice_split}
use Rattle.code_terms.specs.declared.word_fault.WordFault.{WordFault}
use Rattle.code_terms.specs.declared.word_fault.WordFault.TheVariants.{Long}
use Rattle.code_terms.specs.WordText.{without_line_feed, tokens_of, first_and_rest, slot_of, slots_from, word_of}

pub record HasLength (low high : ℕ) (word : List (Option ℕ)) : Type 0 where
  pub least : low ≤ length word
  pub most : length word ≤ high

record Ends (limit place : ℕ) (tokens : List (List ℕ)) (word : List (Option ℕ)) : Type 0 where
  same : length word ≡ length tokens
  within : place + length word ≤ limit

pushed : (limit place : ℕ) (tokens : List (List ℕ)) (found : Option (Option ℕ)) (others : Result (List (Option ℕ)) WordFault) (word : List (Option ℕ)) (token : List ℕ)
    → ((rest : List (Option ℕ)) → others ≡ Ok rest → Ends limit (place + 1) tokens rest) → first_and_rest place found others ≡ Ok word → Ends limit place (token ∷ tokens) word
pushed limit place tokens None others word token ih h = cc
pushed limit place tokens (Some slot) (Err fault) word token ih h = cc
pushed limit place tokens (Some slot) (Ok rest) word token ih h =
    let it = ih rest refl in
    let w : slot ∷ rest ≡ word = cc in
    let n : suc (length rest) ≡ length word = ap length w in
    let same = it.same in let within = it.within in
    record { same = omega arith; within = omega arith }

tested : (limit place : ℕ) (token : List ℕ) (tokens : List (List ℕ)) (word : List (Option ℕ)) (b : Bool) → nat_le limit place ≡ b
    → ((rest : List (Option ℕ)) → place + 1 ≤ limit → slots_from limit (place + 1) tokens ≡ Ok rest → Ends limit (place + 1) tokens rest)
    → cond b (Err Long) (first_and_rest place (slot_of limit token) (slots_from limit (place + 1) tokens)) ≡ Ok word → Ends limit place (token ∷ tokens) word
tested limit place token tokens word true is ih h = cc
tested limit place token tokens word false is ih h =
    let below : place + 1 ≤ limit = search (arith, nat_tests)
    in pushed limit place tokens (slot_of limit token) (slots_from limit (place + 1) tokens) word token (λ rest r. ih rest below r) h

slots_end : (limit place : ℕ) (tokens : List (List ℕ)) (word : List (Option ℕ)) → place ≤ limit → slots_from limit place tokens ≡ Ok word → Ends limit place tokens word
unfolding slots_from
slots_end limit place [] word le h = let w : [] ≡ word = cc in let n : 0 ≡ length word = ap length w in record { same = sym n; within = omega arith }
slots_end limit place (token ∷ tokens) word le h =
    tested limit place token tokens word (nat_le limit place) refl (λ rest below r. slots_end limit (place + 1) tokens rest below r) h

pub word_of-length : (m : ℕ) (bytes : List ℕ) (word : List (Option ℕ)) → word_of m bytes ≡ Ok word → HasLength 1 (2 ^ m) word
unfolding word_of
word_of-length m bytes word h =
    let ends = slots_end (2 ^ m) 0 (tokens_of bytes) word (omega arith) h in
    let tokens = length-slice_split (λ b. nat_eq b 44) (without_line_feed bytes) in
    let same = ends.same in let within = ends.within in
    record { least = omega arith; most = omega arith }
