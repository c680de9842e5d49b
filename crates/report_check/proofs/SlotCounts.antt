-- Agreements counted in the rows of a word, place by place.
use Rattle.std.proofs.Common.{◌≡◌, ℕ, zero, suc, ◌+◌, ◌-◌, ◌<◌, ◌≤◌, Bool, true, false, cond, List, length, Option, Some, None, refl, sym, ap, ◌∙◌, inl, inr, arith}
use mir.Val.{bool_byte}
use Rattle.std.specs.Prelude.{◌==◌, ◌&&◌, slice_index, slice_index_or}
use Rattle.std.proofs.lemmas.Bool.{cases_lt}
use Rattle.std.proofs.lemmas.List.{get_or_past}
use Rattle.code_terms.specs.Symbols.{symbol_of}
use Rattle.code_terms.specs.Words.{agrees, agreement_of, holds_symbol, slot_at}
use Rattle.code_terms.proofs.PlaceLaws.{places_below, length-places_below-hit, length-places_below-miss, length-places_below-all}
use Rattle.report_check.specs.Shown.{HasSymbols, HasSlots, agreement_below}

is_places_below : (m k u : ℕ) (word : List (Option ℕ)) (n : ℕ) → agreement_below m k u word n ≡ length (places_below m k u word n)
unfolding places_below
is_places_below m k u word n = refl

pub one_at_most : (test : Bool) (n : ℕ) → n ≡ bool_byte test → n ≤ 1
one_at_most true n is = omega (arith, is)
one_at_most false n is = omega (arith, is)

counted : (m k u : ℕ) (word : List (Option ℕ)) (n : ℕ) (test : Bool) → agrees m k u word n ≡ test → agreement_below m k u word n + bool_byte test ≡ agreement_below m k u word (n + 1)
counted m k u word n true is = omega (arith, is_places_below m k u word n, is_places_below m k u word (n + 1), length-places_below-hit m k u word n is)
counted m k u word n false is = omega (arith, is_places_below m k u word n, is_places_below m k u word (n + 1), length-places_below-miss m k u word n is)

not_none : {X : Type 0} {x : X} → None ≡ Some x → ⊥
not_none h = cc

here : (m k u : ℕ) (word : List (Option ℕ)) (place symbol other : ℕ) (known : Bool) → slot_at word place ≡ cond known (Some symbol) None → (place < length word → other ≡ symbol_of m k u place)
    → agrees m k u word place ≡ (known && symbol == other)
here m k u word place symbol other false slot is = ap (λ s. holds_symbol s (symbol_of m k u place)) slot
here m k u word place symbol other true slot is =
    elim (cases_lt place (length word)) [
      | inl inside ↦ ap (λ s. holds_symbol s (symbol_of m k u place)) slot ∙ ap (λ t. symbol == t) (sym (is inside))
      | inr over ↦ absurd (not_none (sym (get_or_past word place None over) ∙ slot))
    ]

module _ (m k u : ℕ) (word : List (Option ℕ)) (symbols row : List ℕ) (known : List Bool) where
  pub place_more : (start count offset : ℕ) → start + offset < 256 → HasSlots word symbols known → HasSymbols m k u (length word) row
      → agreement_below m k u word start + count ≡ agreement_below m k u word (start + offset)
      → agreement_below m k u word start + (count + bool_byte (slice_index_or known (start + offset) false && slice_index symbols (start + offset) == slice_index row (start + offset)))
      ≡ agreement_below m k u word (start + (offset + 1))
  place_more start count offset within are has before =
      let place : ℕ = start + offset in
      let test : Bool = slice_index_or known place false && slice_index symbols place == slice_index row place in
      let on : start + (offset + 1) ≡ place + 1 = omega arith in
      let at = here m k u word place (slice_index symbols place) (slice_index row place) (slice_index_or known place false) (are place within) (λ inside. has place inside) in
      let more = counted m k u word place test at in
      let e : agreement_below m k u word (start + (offset + 1)) ≡ agreement_below m k u word (place + 1) = ap (agreement_below m k u word) on in
      omega (arith, before, more, e)

-- behind the end of the word nothing agrees
past : (m k u : ℕ) (word : List (Option ℕ)) (n more : ℕ) → length word ≡ n → agreement_below m k u word (n + more) ≡ agreement_of m k u word
past m k u word n zero is =
    let none : n + 0 ≡ n = omega arith in
    ap (agreement_below m k u word) none ∙ is_places_below m k u word n ∙ length-places_below-all m k u word n is
past m k u word n (suc more) is =
    let place : ℕ = n + more in
    let on : n + suc more ≡ place + 1 = omega arith in
    let nothing : agrees m k u word place ≡ false = ap (λ s. holds_symbol s (symbol_of m k u place)) (get_or_past word place None (omega arith)) in
    let same = counted m k u word place false nothing in
    let e : agreement_below m k u word (n + suc more) ≡ agreement_below m k u word (place + 1) = ap (agreement_below m k u word) on in
    omega (arith, same, e, past m k u word n more is)

pub past_end : (m k u : ℕ) (word : List (Option ℕ)) (n : ℕ) → length word ≤ n → agreement_below m k u word n ≡ agreement_of m k u word
past_end m k u word n over =
    let on : n ≡ length word + (n - length word) = omega (arith, over) in
    ap (agreement_below m k u word) on ∙ past m k u word (length word) (n - length word) refl
