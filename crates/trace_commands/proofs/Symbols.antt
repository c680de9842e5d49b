-- The symbols of a word that a text spells.
use Rattle.std.proofs.Common.{◌≡◌, ℕ, ◌+◌, ◌^◌, ◌<◌, List, [], ◌∷◌, Bool, true, false, cond, Option, None, Some, IfSome, Result, Ok, Err, refl, subst, arith, nat_lt, nat_le}
use Rattle.std.specs.Prelude.{bytes_eq}
use Rattle.std.proofs.lemmas.Bool.Decides.{nat_tests}
use Rattle.std.proofs.lemmas.List.Elements.{All-nil, All-cons}
use Rattle.text_terms.specs.Numbers.{number_of}
use Rattle.code_terms.specs.declared.word_fault.WordFault.{WordFault}
use Rattle.code_terms.specs.declared.word_fault.WordFault.TheVariants.{Long}
use Rattle.code_terms.specs.Words.{HasSymbolsBelow}
use Rattle.code_terms.specs.WordText.{tokens_of, symbol_below, first_and_rest, slot_of, slots_from, word_of}

abbrev IsBelow : ℕ → Option ℕ → Type 0
IsBelow limit slot = IfSome slot (λ v. v < limit)

number_symbol : (limit v : ℕ) (b : Bool) (slot : Option ℕ) → nat_lt v limit ≡ b → cond b (Some (Some v)) None ≡ Some slot → IsBelow limit slot
number_symbol limit v true slot is h =
    let less : v < limit = search (arith, nat_tests) in
    let same : Some v ≡ slot = cc in
    subst (IsBelow limit) same less
number_symbol limit v false slot is h = cc

below_symbol : (limit : ℕ) (number : Option ℕ) (slot : Option ℕ) → symbol_below limit number ≡ Some slot → IsBelow limit slot
below_symbol limit None slot h = cc
below_symbol limit (Some v) slot h = number_symbol limit v (nat_lt v limit) slot refl h

token_symbol : (limit : ℕ) (erased : Bool) (number : Option ℕ) (slot : Option ℕ) → cond erased (Some None) (symbol_below limit number) ≡ Some slot → IsBelow limit slot
token_symbol limit true number slot h = let same : None ≡ slot = cc in subst (IsBelow limit) same tt
token_symbol limit false number slot h = below_symbol limit number slot h

slot_symbol : (limit : ℕ) (token : List ℕ) (slot : Option ℕ) → slot_of limit token ≡ Some slot → IsBelow limit slot
unfolding slot_of
slot_symbol limit token slot h = token_symbol limit (bytes_eq token (45 ∷ [])) (number_of token) slot h

more_symbols : (limit place : ℕ) (found : Option (Option ℕ)) (others : Result (List (Option ℕ)) WordFault) (word : List (Option ℕ)) → ((slot : Option ℕ) → found ≡ Some slot → IsBelow limit slot)
    → ((rest : List (Option ℕ)) → others ≡ Ok rest → HasSymbolsBelow limit rest) → first_and_rest place found others ≡ Ok word → HasSymbolsBelow limit word
more_symbols limit place None others word one rest h = cc
more_symbols limit place (Some slot) (Err fault) word one rest h = cc
more_symbols limit place (Some slot) (Ok behind) word one rest h =
    let same : slot ∷ behind ≡ word = cc in
    subst (HasSymbolsBelow limit) same (All-cons (IsBelow limit) slot behind (one slot refl) (rest behind refl))

tested : (limit place : ℕ) (long : Bool) (found : Option (Option ℕ)) (others : Result (List (Option ℕ)) WordFault) (word : List (Option ℕ)) → ((slot : Option ℕ) → found ≡ Some slot → IsBelow limit slot)
    → ((rest : List (Option ℕ)) → others ≡ Ok rest → HasSymbolsBelow limit rest) → cond long (Err Long) (first_and_rest place found others) ≡ Ok word → HasSymbolsBelow limit word
tested limit place true found others word one rest h = cc
tested limit place false found others word one rest h = more_symbols limit place found others word one rest h

slots_symbols : (limit place : ℕ) (tokens : List (List ℕ)) (word : List (Option ℕ)) → slots_from limit place tokens ≡ Ok word → HasSymbolsBelow limit word
unfolding slots_from
slots_symbols limit place [] word h = let same : [] ≡ word = cc in subst (HasSymbolsBelow limit) same (All-nil (IsBelow limit))
slots_symbols limit place (token ∷ tokens) word h =
    tested limit place (nat_le limit place) (slot_of limit token) (slots_from limit (place + 1) tokens) word (slot_symbol limit token) (slots_symbols limit (place + 1) tokens) h

pub word_symbols : (m : ℕ) (bytes : List ℕ) (word : List (Option ℕ)) → word_of m bytes ≡ Ok word → HasSymbolsBelow (2 ^ m) word
unfolding word_of
word_symbols m bytes word h = slots_symbols (2 ^ m) 0 (tokens_of bytes) word h
