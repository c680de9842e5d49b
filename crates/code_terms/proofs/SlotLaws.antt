-- What the slots are that a text spells.
use Rattle.std.proofs.Common.{arith, ◌≡◌, ℕ, zero, suc, ◌+◌, ◌^◌, ◌<◌, ◌≤◌, Bool, true, false, List, [], ◌∷◌, ◌++◌, length, Some, None, Option, Result, Ok, Err, IfSome, refl, subst}
use Rattle.std.specs.Prelude.{if◌then◌else◌, nat_lt, nat_le, bytes_eq}
use Rattle.std.proofs.lemmas.Bool.{leb-true, leb-false}
use Rattle.std.proofs.lemmas.List.Elements.{All-push}
use Rattle.text_terms.specs.Numbers.{number_of}
use Rattle.code_terms.specs.Words.{HasSymbolsBelow}
use Rattle.code_terms.specs.WordText.{tokens_of, slot_of, symbol_below, with_slot, first_and_rest, slots_from, word_of}
use Rattle.code_terms.specs.declared.word_fault.WordFault.{WordFault}
use Rattle.code_terms.specs.declared.word_fault.WordFault.TheVariants.{Long}

below_symbol : (limit : ℕ) (number : Option ℕ) (slot : Option ℕ) → symbol_below limit number ≡ Some slot → IfSome slot (λ v. v < limit)
below_symbol limit None slot is = cc
below_symbol limit (Some v) slot is = by (nat_lt v limit) refl is
  where
    by : (test : Bool) → nat_lt v limit ≡ test → (if test then Some (Some v) else None) ≡ Some slot → IfSome slot (λ v. v < limit)
    by true below same = let e : Some v ≡ slot = cc in subst (λ s. IfSome s (λ v. v < limit)) e (leb-true _ limit below)
    by false below same = cc

-- a token's symbol is below the limit
pub slot_of-below : (limit : ℕ) (token : List ℕ) (slot : Option ℕ) → slot_of limit token ≡ Some slot → IfSome slot (λ v. v < limit)
unfolding slot_of
slot_of-below limit token slot is = by (bytes_eq token (45 ∷ [])) is
  where
    by : (test : Bool) → (if test then Some None else symbol_below limit (number_of token)) ≡ Some slot → IfSome slot (λ v. v < limit)
    by true same = let e : None ≡ slot = cc in subst (λ s. IfSome s (λ v. v < limit)) e tt
    by false same = below_symbol limit (number_of token) slot same

-- one more slot with a symbol below the limit
pub HasSymbolsBelow-push : (limit : ℕ) (word : List (Option ℕ)) (slot : Option ℕ) → HasSymbolsBelow limit word → IfSome slot (λ v. v < limit) → HasSymbolsBelow limit (word ++ slot ∷ [])
HasSymbolsBelow-push limit word slot before here = All-push (λ s. IfSome s (λ v. v < limit)) word slot before here

pub HasSymbolsBelow-none : (limit : ℕ) → HasSymbolsBelow limit []
HasSymbolsBelow-none limit k d within = absurd (omega arith)

HasSymbolsBelow-cons : (limit : ℕ) (slot : Option ℕ) (word : List (Option ℕ)) → IfSome slot (λ v. v < limit) → HasSymbolsBelow limit word → HasSymbolsBelow limit (slot ∷ word)
HasSymbolsBelow-cons limit slot word here behind zero d within = here
HasSymbolsBelow-cons limit slot word here behind (suc k) d within = behind k d (omega arith)

-- what a word has that is spelled from a place on
pub record IsSpelled (limit place : ℕ) (word : List (Option ℕ)) : Type 0 where
  pub short : length word + place ≤ limit
  pub symbols : HasSymbolsBelow limit word

-- one more slot in front
spelled_slot : (limit place : ℕ) (token : List ℕ) (slot : Option ℕ) → slot_of limit token ≡ Some slot → (others : Result (List (Option ℕ)) WordFault) (word : List (Option ℕ))
    → ((rest : List (Option ℕ)) → others ≡ Ok rest → IsSpelled limit (place + 1) rest) → with_slot slot others ≡ Ok word → IsSpelled limit place word
spelled_slot limit place token slot spells (Ok rest) word behind is =
    let whole : slot ∷ rest ≡ word = cc in
    let after = behind rest refl in
    subst (IsSpelled limit place) whole (record {
      short = omega (arith, after.short);
      symbols = HasSymbolsBelow-cons limit slot rest (slot_of-below limit token slot spells) after.symbols;
    })
spelled_slot limit place token slot spells (Err fault) word behind is = cc

spelled_first : (limit place : ℕ) (token : List ℕ) (found : Option (Option ℕ)) → slot_of limit token ≡ found → (others : Result (List (Option ℕ)) WordFault) (word : List (Option ℕ))
    → ((rest : List (Option ℕ)) → others ≡ Ok rest → IsSpelled limit (place + 1) rest) → first_and_rest place found others ≡ Ok word → IsSpelled limit place word
spelled_first limit place token None spells others word behind is = cc
spelled_first limit place token (Some slot) spells others word behind is = spelled_slot limit place token slot spells others word behind is

spelled_more : (limit place : ℕ) (token : List ℕ) (test : Bool) → nat_le limit place ≡ test → (others : Result (List (Option ℕ)) WordFault) (word : List (Option ℕ))
    → (place < limit → (rest : List (Option ℕ)) → others ≡ Ok rest → IsSpelled limit (place + 1) rest)
    → (if test then Err Long else first_and_rest place (slot_of limit token) others) ≡ Ok word → IsSpelled limit place word
spelled_more limit place token true above others word behind is = cc
spelled_more limit place token false below others word behind is = spelled_first limit place token (slot_of limit token) refl others word (behind (leb-false limit place below)) is

-- what is spelled by tokens from a place on, which is one or behind the last
pub slots_from-spelled : (limit place : ℕ) (tokens : List (List ℕ)) (word : List (Option ℕ)) → place ≤ limit → slots_from limit place tokens ≡ Ok word → IsSpelled limit place word
unfolding slots_from
slots_from-spelled limit place [] word at is = let none : [] ≡ word = cc in subst (IsSpelled limit place) none (record { short = omega arith; symbols = HasSymbolsBelow-none limit })
slots_from-spelled limit place (token ∷ tokens) word at is =
    spelled_more limit place token (nat_le limit place) refl (slots_from limit (place + 1) tokens) word (λ room rest spells. slots_from-spelled limit (place + 1) tokens rest (omega arith) spells) is

-- a word that a text spells
pub word_of-spelled : (m : ℕ) (bytes : List ℕ) (word : List (Option ℕ)) → word_of m bytes ≡ Ok word → IsSpelled (2 ^ m) 0 word
unfolding word_of
word_of-spelled m bytes word is = slots_from-spelled (2 ^ m) 0 (tokens_of bytes) word (omega arith) is

pub word_of-short : (m : ℕ) (bytes : List ℕ) (word : List (Option ℕ)) → word_of m bytes ≡ Ok word → length word ≤ 2 ^ m
word_of-short m bytes word is = omega (arith, (word_of-spelled m bytes word is).short)

pub word_of-symbols : (m : ℕ) (bytes : List ℕ) (word : List (Option ℕ)) → word_of m bytes ≡ Ok word → HasSymbolsBelow (2 ^ m) word
word_of-symbols m bytes word is = (word_of-spelled m bytes word is).symbols
