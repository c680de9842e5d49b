-- Where a text of a word has its first fault, token by token.
use Rattle.std.proofs.Common.{arith, ◌≡◌, ◌↔◌, ℕ, suc, ◌+◌, ◌^◌, ◌<◌, ◌≤◌, Bool, true, false, cond, ◌&&◌, List, [], ◌∷◌, length, map, take, get_or, Some, None, Option, Result, Ok, Err, refl, sym, ap, ◌∙◌, subst, inl, inr}
use Rattle.std.specs.Prelude.{nat_le}
use Rattle.std.specs.List.{list_all}
use Rattle.std.specs.Option.{is_some}
use Rattle.std.proofs.lemmas.Bool.{leb-true, leb-false, cases_order}
use Rattle.std.proofs.lemmas.List.{get_or-take, get_or-map, length-map, length-take}
use Rattle.std.proofs.lemmas.List.Sums.{AllPass-from_list_all}
use Rattle.code_terms.specs.WordText.{tokens_of, slot_of, with_slot, first_and_rest, slots_from, word_of}
use Rattle.code_terms.specs.WordFaults.{are_slots, SpellWord, IsFirstBroken, IsOverlong}
use Rattle.code_terms.specs.declared.word_fault.WordFault.{WordFault}
use Rattle.code_terms.specs.declared.word_fault.WordFault.TheVariants.{Token, Long}

-- what tokens are found to be from a place on
data Told (limit place : ℕ) (tokens : List (List ℕ)) : Result (List (Option ℕ)) WordFault → Type 0 where
  word : (slots : List (Option ℕ)) → map (slot_of limit) tokens ≡ map Some slots → place + length tokens ≤ limit → Told limit place tokens (Ok slots)
  token : (more at : ℕ) → at ≡ place + more → more < length tokens → at < limit → are_slots limit (take more tokens) → slot_of limit (get_or tokens more []) ≡ None → Told limit place tokens (Err (Token at))
  long : (more : ℕ) → more < length tokens → place + more ≡ limit → are_slots limit (take more tokens) → Told limit place tokens (Err Long)

slot_and_all : (found : Option (Option ℕ)) (slot : Option ℕ) (others : Bool) → found ≡ Some slot → others ≡ true → (is_some found && others) ≡ true
slot_and_all found slot others is all = rw (is, all) refl

pushed : (limit place : ℕ) (first : List ℕ) (tokens : List (List ℕ)) (slot : Option ℕ) → slot_of limit first ≡ Some slot → (r : Result (List (Option ℕ)) WordFault)
    → Told limit (place + 1) tokens r → Told limit place (first ∷ tokens) (with_slot slot r)
pushed limit place first tokens slot is (Ok found) (word slots spelled room) =
    word (slot ∷ slots) (rw (is, spelled) refl) (omega (arith, room))
pushed limit place first tokens slot is (Err (Token n)) (token more at there inside room begins broken) =
    token (suc more) at (omega (arith, there)) (omega (arith, inside)) room (slot_and_all (slot_of limit first) slot (list_all (λ t. is_some (slot_of limit t)) (take more tokens)) is begins) broken
pushed limit place first tokens slot is (Err Long) (long more inside there begins) =
    long (suc more) (omega (arith, inside)) (omega (arith, there)) (slot_and_all (slot_of limit first) slot (list_all (λ t. is_some (slot_of limit t)) (take more tokens)) is begins)

told_first : (limit place : ℕ) (first : List ℕ) (tokens : List (List ℕ)) (found : Option (Option ℕ)) → slot_of limit first ≡ found → place < limit → (r : Result (List (Option ℕ)) WordFault)
    → Told limit (place + 1) tokens r → Told limit place (first ∷ tokens) (first_and_rest place found r)
told_first limit place first tokens None is room r others = token 0 place (omega arith) (omega arith) room refl is
told_first limit place first tokens (Some slot) is room r others = pushed limit place first tokens slot is r others

told_by : (limit place : ℕ) (first : List ℕ) (tokens : List (List ℕ)) → place ≤ limit → (full : Bool) → nat_le limit place ≡ full → (r : Result (List (Option ℕ)) WordFault)
    → (place < limit → Told limit (place + 1) tokens r) → Told limit place (first ∷ tokens) (cond full (Err Long) (first_and_rest place (slot_of limit first) r))
told_by limit place first tokens le true is r others = long 0 (omega arith) (omega (arith, leb-true limit place is)) refl
told_by limit place first tokens le false is r others =
    let room = leb-false limit place is in
    told_first limit place first tokens (slot_of limit first) refl room r (others room)

told : (limit place : ℕ) (tokens : List (List ℕ)) → place ≤ limit → Told limit place tokens (slots_from limit place tokens)
unfolding slots_from
told limit place [] le = word [] refl (omega arith)
told limit place (first ∷ tokens) le =
    told_by limit place first tokens le (nat_le limit place) refl (slots_from limit (place + 1) tokens) (λ room. told limit (place + 1) tokens (omega (arith, room)))

-- ---- what is told is so alone

slot_there : {A : Type 0} (limit n : ℕ) (tokens : List (List ℕ)) → are_slots limit (take n tokens) → (i : ℕ) → i < n → i < length tokens → slot_of limit (get_or tokens i []) ≡ None → A
slot_there limit n tokens begins i below inside none =
    let all = AllPass-from_list_all (λ t. is_some (slot_of limit t)) (take n tokens) begins in
    let here : is_some (slot_of limit (get_or tokens i [])) ≡ true = ap (λ (t : List ℕ). is_some (slot_of limit t)) (sym (get_or-take n tokens i [] below)) ∙ all i [] (omega (arith, length-take n tokens)) in
    absurd cc

slot_spelled : {A : Type 0} (limit : ℕ) (tokens : List (List ℕ)) (slots : List (Option ℕ)) → map (slot_of limit) tokens ≡ map Some slots → (i : ℕ) → i < length tokens → slot_of limit (get_or tokens i []) ≡ None → A
slot_spelled limit tokens slots spelled i inside none =
    let long : length tokens ≡ length slots = sym (length-map tokens (slot_of limit)) ∙ ap (λ (found : List (Option (Option ℕ))). length found) spelled ∙ length-map slots Some in
    let here : slot_of limit (get_or tokens i []) ≡ Some (get_or slots i None) =
    sym (get_or-map (slot_of limit) tokens i [] None inside) ∙ ap (λ (found : List (Option (Option ℕ))). get_or found i None) spelled ∙ get_or-map Some slots i None None (omega (arith, inside, long)) in
    absurd cc

same_slots : (xs ys : List (Option ℕ)) → (let found : List (Option (Option ℕ)) = map Some xs in found) ≡ map Some ys → xs ≡ ys
same_slots [] [] is = refl
same_slots [] (y ∷ ys) is = absurd cc
same_slots (x ∷ xs) [] is = absurd cc
same_slots (x ∷ xs) (y ∷ ys) is =
    let first : x ≡ y = cc in
    let others : xs ≡ ys = same_slots xs ys cc in
    rw (first, others) refl

word_told : (limit : ℕ) (tokens : List (List ℕ)) (r : Result (List (Option ℕ)) WordFault) → Told limit 0 tokens r → (word : List (Option ℕ)) → SpellWord limit tokens word → r ≡ Ok word
word_told limit tokens (Ok found) (word slots spelled room) w is = ap Ok (same_slots slots w (sym spelled ∙ is.slots))
word_told limit tokens (Err (Token n)) (token more at there inside room begins broken) w is = slot_spelled limit tokens w is.slots more inside broken
word_told limit tokens (Err Long) (long more inside there begins) w is = absurd (omega (arith, inside, there, is.places))

token_told : (limit : ℕ) (tokens : List (List ℕ)) (r : Result (List (Option ℕ)) WordFault) → Told limit 0 tokens r → (place : ℕ) → IsFirstBroken limit tokens place → r ≡ Err (Token place)
token_told limit tokens (Ok found) (word slots spelled room) place is = slot_spelled limit tokens slots spelled place is.inside is.broken
token_told limit tokens (Err (Token n)) (token more at there inside room begins broken) place is =
    elim (cases_order more place) [
      | inl same ↦ ap (λ (p : ℕ). Err (Token p)) (omega (arith, there, same))
      | inr apart ↦ elim apart [
        | inl lt ↦ slot_there limit place tokens is.begins more lt inside broken
        | inr gt ↦ slot_there limit more tokens begins place gt is.inside is.broken
      ]
    ]
token_told limit tokens (Err Long) (long more inside there begins) place is = slot_there limit more tokens begins place (omega (arith, there, is.has_room)) is.inside is.broken

long_told : (limit : ℕ) (tokens : List (List ℕ)) (r : Result (List (Option ℕ)) WordFault) → Told limit 0 tokens r → IsOverlong limit tokens → r ≡ Err Long
long_told limit tokens (Ok found) (word slots spelled room) is = absurd (omega (arith, room, is.more))
long_told limit tokens (Err (Token n)) (token more at there inside room begins broken) is = slot_there limit limit tokens is.whole more (omega (arith, there, room)) inside broken
long_told limit tokens (Err Long) (long more inside there begins) is = refl

-- ---- and each answer is told

answer_word : (limit : ℕ) (tokens : List (List ℕ)) (r : Result (List (Option ℕ)) WordFault) → Told limit 0 tokens r → (word : List (Option ℕ)) → r ≡ Ok word → SpellWord limit tokens word
answer_word limit tokens (Ok found) (word slots spelled room) w is =
    let same : slots ≡ w = cc in
    record { slots = spelled ∙ ap (λ (s : List (Option ℕ)). map Some s) same; places = omega (arith, room) }
answer_word limit tokens (Err (Token n)) (token more at there inside room begins broken) w is = absurd cc
answer_word limit tokens (Err Long) (long more inside there begins) w is = absurd cc

answer_token : (limit : ℕ) (tokens : List (List ℕ)) (r : Result (List (Option ℕ)) WordFault) → Told limit 0 tokens r → (place : ℕ) → r ≡ Err (Token place) → IsFirstBroken limit tokens place
answer_token limit tokens (Ok found) (word slots spelled room) place is = absurd cc
answer_token limit tokens (Err (Token n)) (token more at there inside room begins broken) place is =
    let here : at ≡ place = cc in
    let same : more ≡ place = omega (arith, there, here) in
    subst (IsFirstBroken limit tokens) same (record { inside = inside; has_room = omega (arith, there, room); begins = begins; broken = broken })
answer_token limit tokens (Err Long) (long more inside there begins) place is = absurd cc

answer_long : (limit : ℕ) (tokens : List (List ℕ)) (r : Result (List (Option ℕ)) WordFault) → Told limit 0 tokens r → r ≡ Err Long → IsOverlong limit tokens
answer_long limit tokens (Ok found) (word slots spelled room) is = absurd cc
answer_long limit tokens (Err (Token n)) (token more at there inside room begins broken) is = absurd cc
answer_long limit tokens (Err Long) (long more inside there begins) is =
    let same : more ≡ limit = omega (arith, there) in
    record { more = omega (arith, inside, same); whole = subst (λ (n : ℕ). are_slots limit (take n tokens)) same begins }

word_told_of : (m : ℕ) (bytes : List ℕ) → Told (2 ^ m) 0 (tokens_of bytes) (word_of m bytes)
unfolding word_of
word_told_of m bytes = told (2 ^ m) 0 (tokens_of bytes) (omega arith)

pub is_word : (m : ℕ) (bytes : List ℕ) (w : List (Option ℕ)) → (word_of m bytes ≡ Ok w) ↔ SpellWord (2 ^ m) (tokens_of bytes) w
is_word m bytes w =
    let tells = word_told_of m bytes in
    ((λ is. answer_word (2 ^ m) (tokens_of bytes) (word_of m bytes) tells w is), (λ is. word_told (2 ^ m) (tokens_of bytes) (word_of m bytes) tells w is))

pub is_broken : (m : ℕ) (bytes : List ℕ) (place : ℕ) → (word_of m bytes ≡ Err (Token place)) ↔ IsFirstBroken (2 ^ m) (tokens_of bytes) place
is_broken m bytes place =
    let tells = word_told_of m bytes in
    ((λ is. answer_token (2 ^ m) (tokens_of bytes) (word_of m bytes) tells place is), (λ is. token_told (2 ^ m) (tokens_of bytes) (word_of m bytes) tells place is))

pub is_overlong : (m : ℕ) (bytes : List ℕ) → (word_of m bytes ≡ Err Long) ↔ IsOverlong (2 ^ m) (tokens_of bytes)
is_overlong m bytes =
    let tells = word_told_of m bytes in
    ((λ is. answer_long (2 ^ m) (tokens_of bytes) (word_of m bytes) tells is), (λ is. long_told (2 ^ m) (tokens_of bytes) (word_of m bytes) tells is))
