-- Cells and the index that finds their digests.
use Rattle.std.proofs.Common.{◌≡◌, ◌≢◌, ℕ, zero, suc, ◌<◌, Bool, true, false, cond, List, [], length, replicate, Option, Some, None, refl, sym, ap, ◌∙◌, subst, arith, inl, inr, ◌⊎◌, MatchOption}
use Rattle.std.specs.Prelude.{slice_set}
use Rattle.std.specs.Map.{lookup}
use Rattle.std.specs.Str.{bytes_eq}
use Rattle.std.proofs.lemmas.Bool.{cases_lt}
use Rattle.std.proofs.lemmas.List.{get_or-set_same, get_or-set_other}
use Rattle.std.proofs.lemmas.Slice.Eq.{bytes_eq-Decides}
use Rattle.title_terms.specs.Titles.{IsDigest}
use Rattle.title_store.specs.Cells.{held_at, HoldsDigest, IsAbsent, AreDistinct, IsTable}

some_is : {A : Type 0} (x y : A) → (let o : Option A = Some x in o) ≡ Some y → x ≡ y
some_is x y e = cc

module _ (es fs : List (List ℕ × ℕ)) (cells : List (Option (List ℕ))) (i : ℕ) (d : List ℕ) (inside : i < length cells) (empty : held_at cells i ≡ None) (absent : IsAbsent cells d) (is : IsTable es cells)
    (updates : (q : List ℕ) → lookup (bytes_eq q) fs ≡ cond (bytes_eq d q) (Some i) (lookup (bytes_eq q) es)) where
  there : held_at (slice_set cells i (Some d)) i ≡ Some d
  there = get_or-set_same cells i (Some d) None inside

  elsewhere : (j : ℕ) → j ≢ i → held_at (slice_set cells i (Some d)) j ≡ held_at cells j
  elsewhere j other = get_or-set_other cells i j (Some d) None other

  -- a cell that held something is another one
  other_cell : (j : ℕ) (q : List ℕ) → HoldsDigest cells j q → j ≢ i
  other_cell j q holds same = absurd (let none : held_at cells j ≡ None = ap (held_at cells) same ∙ empty in cc)

  found_by : (q : List ℕ) (j : ℕ) (passes : Bool) → bytes_eq d q ≡ passes → lookup (bytes_eq q) fs ≡ Some j → HoldsDigest (slice_set cells i (Some d)) j q
  found_by q j true passes got =
      let same : d ≡ q = (bytes_eq-Decides d q).0 passes in
      let own : lookup (bytes_eq q) fs ≡ Some i = updates q ∙ ap (λ (b : Bool). cond b (Some i) (lookup (bytes_eq q) es)) passes in
      let here : i ≡ j = some_is i j (sym own ∙ got) in
      ap (held_at (slice_set cells i (Some d))) (sym here) ∙ there ∙ ap Some same
  found_by q j false passes got =
      let older : lookup (bytes_eq q) fs ≡ lookup (bytes_eq q) es = updates q ∙ ap (λ (b : Bool). cond b (Some i) (lookup (bytes_eq q) es)) passes in
      let holds = is.found q j (sym older ∙ got) in
      elsewhere j (other_cell j q holds) ∙ holds

  -- a cell of the new ones holds the new digest, or what it held
  holds_by : (j : ℕ) (q : List ℕ) → HoldsDigest (slice_set cells i (Some d)) j q → ((j ≡ i) × (d ≡ q)) ⊎ HoldsDigest cells j q
  holds_by j q holds = elim (cases_lt j i) as (λ _. ((j ≡ i) × (d ≡ q)) ⊎ HoldsDigest cells j q) [
    | inl lt ↦ inr (sym (elsewhere j (λ same. omega (arith, same, lt))) ∙ holds)
    | inr le ↦ elim (cases_lt i j) as (λ _. ((j ≡ i) × (d ≡ q)) ⊎ HoldsDigest cells j q) [
      | inl lt ↦ inr (sym (elsewhere j (λ same. omega (arith, same, lt))) ∙ holds)
      | inr ge ↦
          let same : j ≡ i = omega (arith, le, ge) in
          inl (same, some_is d q (sym there ∙ ap (held_at (slice_set cells i (Some d))) (sym same) ∙ holds))
    ]
  ]

  different : (q : List ℕ) (j : ℕ) → HoldsDigest cells j q → (passes : Bool) → bytes_eq d q ≡ passes → bytes_eq d q ≡ false
  different q j holds true passes = absurd (absent j (holds ∙ ap Some (sym ((bytes_eq-Decides d q).0 passes))))
  different q j holds false passes = passes

  held : (q : List ℕ) (j : ℕ) → HoldsDigest (slice_set cells i (Some d)) j q → lookup (bytes_eq q) fs ≡ Some j
  held q j holds = elim (holds_by j q holds) as (λ _. lookup (bytes_eq q) fs ≡ Some j) [
    | inl new ↦
        updates q ∙ ap (λ (b : Bool). cond b (Some i) (lookup (bytes_eq q) es)) ((bytes_eq-Decides d q).1 new.1) ∙ ap Some (sym new.0)
    | inr old ↦
        updates q ∙ ap (λ (b : Bool). cond b (Some i) (lookup (bytes_eq q) es)) (different q j old (bytes_eq d q) refl) ∙ is.held q j old
  ]

  digests : IsDigest d → (j : ℕ) (q : List ℕ) → HoldsDigest (slice_set cells i (Some d)) j q → IsDigest q
  digests digest j q holds = elim (holds_by j q holds) as (λ _. IsDigest q) [
    | inl new ↦ subst IsDigest new.1 digest
    | inr old ↦ is.digests j q old
  ]

  pub table_grows : IsDigest d → IsTable fs (slice_set cells i (Some d))
  table_grows digest = record { found = λ q j got. found_by q j (bytes_eq d q) refl got; held = held; digests = digests digest }

pub distinct : (es : List (List ℕ × ℕ)) (cells : List (Option (List ℕ))) → IsTable es cells → AreDistinct cells
distinct es cells is = record { digests = is.digests; once = λ i j d one two. some_is i j (sym (is.held d i one) ∙ is.held d j two) }

none_held : (n i : ℕ) → held_at (replicate n None) i ≡ None
none_held zero i = refl
none_held (suc n) zero = refl
none_held (suc n) (suc i) = none_held n i

pub table_new : (cells : List (Option (List ℕ))) (n : ℕ) → cells ≡ replicate n None → IsTable [] cells
table_new cells n is =
    let nothing : (i : ℕ) (d : List ℕ) → HoldsDigest cells i d → ⊥ = λ i d holds. absurd (let none : held_at cells i ≡ None = ap (λ (cs : List (Option (List ℕ))). held_at cs i) is ∙ none_held n i in cc) in
    record { found = λ d i got. absurd cc; held = λ d i holds. absurd (nothing i d holds); digests = λ i d holds. absurd (nothing i d holds) }

pub found_cell : (es : List (List ℕ × ℕ)) (cells : List (Option (List ℕ))) (d : List ℕ) (r : Option ℕ) → IsTable es cells → r ≡ lookup (bytes_eq d) es → MatchOption r (IsAbsent cells d) (λ i. HoldsDigest cells i d)
found_cell es cells d None is e = λ i holds. absurd (let here : lookup (bytes_eq d) es ≡ Some i = is.held d i holds in cc)
found_cell es cells d (Some i) is e = is.found d i (sym e)
