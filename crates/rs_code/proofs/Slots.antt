-- Slots that are read one after the other.
use Rattle.std.proofs.Common.{◌≡◌, ℕ, ◌+◌, ◌<◌, ◌≤◌, List, [], ◌∷◌, ◌++◌, length, Option, Some, None, Result, Ok, Err, refl, get_or, drop, add-one, append_assoc}
use Rattle.std.proofs.Math.Seq.{drop-cons, drop-length}
use Rattle.std.proofs.lemmas.Bool.{lt-leb, le-leb}
use Rattle.code_terms.specs.declared.word_fault.WordFault.{WordFault}
use Rattle.code_terms.specs.declared.word_fault.WordFault.TheVariants.{Token, Long}
use Rattle.code_terms.specs.WordText.{slot_of, slots_from, with_slot}

-- a word with these slots in front
abbrev pub with_front : List (Option ℕ) → Result (List (Option ℕ)) WordFault → Result (List (Option ℕ)) WordFault
with_front front (Ok word) = Ok (front ++ word)
with_front front (Err fault) = Err fault

pub with_front-none : (r : Result (List (Option ℕ)) WordFault) → with_front [] r ≡ r
with_front-none (Ok word) = refl
with_front-none (Err fault) = refl

pub with_front-more : (front : List (Option ℕ)) (slot : Option ℕ) (r : Result (List (Option ℕ)) WordFault) → with_front front (with_slot slot r) ≡ with_front (front ++ slot ∷ []) r
with_front-more front slot (Ok word) = simp append_assoc
with_front-more front slot (Err fault) = refl

-- the next token, where it stands for a slot
pub slots_from-slot : (limit place : ℕ) (tokens : List (List ℕ)) (token : List ℕ) (slot : Option ℕ) → (place < length tokens) × (token ≡ get_or tokens place token) → place < limit → slot_of limit token ≡ Some slot
    → slots_from limit place (drop place tokens) ≡ with_slot slot (slots_from limit (place + 1) (drop (place + 1) tokens))
unfolding slots_from
slots_from-slot limit place tokens token slot at room is =
    rw (drop-cons tokens place token at.0, ← at.1, is, add-one, lt-leb limit place room) refl

-- the next token, where it stands for none
pub slots_from-token : (limit place : ℕ) (tokens : List (List ℕ)) (token : List ℕ) → (place < length tokens) × (token ≡ get_or tokens place token) → place < limit → slot_of limit token ≡ None
    → slots_from limit place (drop place tokens) ≡ Err (Token place)
unfolding slots_from
slots_from-token limit place tokens token at room is = rw (drop-cons tokens place token at.0, ← at.1, is, lt-leb limit place room) refl

-- a token past the last place
pub slots_from-long : (limit place : ℕ) (tokens : List (List ℕ)) (token : List ℕ) → (place < length tokens) × (token ≡ get_or tokens place token) → limit ≤ place → slots_from limit place (drop place tokens) ≡ Err Long
unfolding slots_from
slots_from-long limit place tokens token at full = rw (drop-cons tokens place token at.0, ← at.1, le-leb limit place full) refl

-- no token is left
pub slots_from-end : (limit place : ℕ) (tokens : List (List ℕ)) → place ≡ length tokens → slots_from limit place (drop place tokens) ≡ Ok []
unfolding slots_from
slots_from-end limit place tokens all = rw (all, drop-length tokens) refl
