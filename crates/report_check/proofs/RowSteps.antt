-- Rows that are written from the front on.
use Rattle.std.proofs.Common.{◌≡◌, ◌≢◌, ℕ, ◌+◌, ◌*◌, ◌^◌, ◌<◌, ◌≤◌, Bool, true, false, cond, List, [], length, get_or, set, replicate, Option, Some, None, sym, ap, ap₂, ◌∙◌, subst, inl, inr, arith}
use Rattle.std.proofs.lemmas.Bool.{cases_lt}
use Rattle.std.proofs.lemmas.List.{get_or-set_other, get_or-set_same, get_or-replicate, get_or_past, length-replicate, length-set}
use Rattle.code_terms.specs.Words.{slot_at}
use Rattle.report_check.specs.Shown.{HasSlots, HasSymbols, message_of_row, HasRows}

-- an element is written behind those that are as they should be
pub one_more : {X : Type 0} (Right : ℕ → X → Type 0) (xs : List X) (i : ℕ) (x other : X) → i < length xs → Right i x → ((j : ℕ) → j < i → Right j (get_or xs j other)) → (j : ℕ) → j < i + 1 → Right j (get_or (set xs i x) j other)
one_more Right xs i x other inside right before j below =
    elim (cases_lt j i) [
      | inl front ↦ subst (Right j) (sym (get_or-set_other xs i j x other (λ e. omega (arith, e, front)))) (before j front)
      | inr back ↦
          let same : i ≡ j = omega (arith, back, below) in
          subst (λ t. Right t (get_or (set xs i x) t other)) same (subst (Right i) (sym (get_or-set_same xs i x other inside)) right)
    ]

module _ (m k n : ℕ) where
  abbrev IsRow : ℕ → List ℕ → Type 0
  IsRow index row = message_of_row index < 2 ^ (m * k) → HasSymbols m k (message_of_row index) n row

  pub row_more : (rows : List (List ℕ)) (index : ℕ) (row : List ℕ) → index < length rows → HasSymbols m k (message_of_row index) n row → HasRows m k n index rows → HasRows m k n (index + 1) (set rows index row)
  row_more rows index row inside is before j below = one_more IsRow rows index row [] inside (λ small. is) before j below

  -- no row is written for what is no message
  pub row_same : (rows : List (List ℕ)) (index : ℕ) → 2 ^ (m * k) ≤ message_of_row index → HasRows m k n index rows → HasRows m k n (index + 1) rows
  row_same rows index large before j below small =
      elim (cases_lt j index) [
        | inl front ↦ before j front small
        | inr back ↦
            let same : j ≡ index = omega (arith, back, below) in
            let e : message_of_row j ≡ message_of_row index = ap message_of_row same in
            absurd (omega (arith, e, small, large))
      ]

-- the front of a word is written, and behind it no place is readable
pub record SlotsBelow (word : List (Option ℕ)) (symbols : List ℕ) (known : List Bool) (place : ℕ) : Type 0 where
  pub many_symbols : length symbols ≡ 256
  pub many_known : length known ≡ 256
  pub done : (p : ℕ) → p < place → slot_at word p ≡ cond (get_or known p false) (Some (get_or symbols p 0)) None
  pub rest : (p : ℕ) → place ≤ p → get_or known p false ≡ false

module _ (word : List (Option ℕ)) where
  pub no_slots : SlotsBelow word (replicate 256 0) (replicate 256 false) 0
  no_slots = record {
    many_symbols = length-replicate {A = ℕ} 256 0;
    many_known = length-replicate 256 false;
    done = λ p below. absurd (omega arith);
    rest = λ p behind. elim (cases_lt p 256) [
      | inl inside ↦ get_or-replicate 256 p false false inside
      | inr over ↦ get_or_past (replicate 256 false) p false (omega (arith, over, length-replicate 256 false))
    ];
  }

  pub slot_more : (symbols : List ℕ) (known : List Bool) (place symbol : ℕ) → place < 256 → slot_at word place ≡ Some symbol → SlotsBelow word symbols known place
      → SlotsBelow word (set symbols place symbol) (set known place true) (place + 1)
  slot_more symbols known place symbol small is before = record {
    many_symbols = length-set symbols place symbol ∙ before.many_symbols;
    many_known = length-set known place true ∙ before.many_known;
    done = λ p below. elim (cases_lt p place) [
      | inl front ↦
          let apart : p ≢ place = λ e. omega (arith, e, front) in
          before.done p front ∙ sym (ap₂ (λ b s. cond b (Some s) None) (get_or-set_other known place p true false apart) (get_or-set_other symbols place p symbol 0 apart))
      | inr back ↦
          let same : place ≡ p = omega (arith, back, below) in
          subst (λ t. slot_at word t ≡ cond (get_or (set known place true) t false) (Some (get_or (set symbols place symbol) t 0)) None) same
          (is ∙ sym (ap₂ (λ b s. cond b (Some s) None) (get_or-set_same known place true false (omega (arith, small, before.many_known))) (get_or-set_same symbols place symbol 0 (omega (arith, small, before.many_symbols)))))
    ];
    rest = λ p behind. get_or-set_other known place p true false (λ e. omega (arith, e, behind)) ∙ before.rest p (omega (arith, behind));
  }

  pub slot_none : (symbols : List ℕ) (known : List Bool) (place : ℕ) → slot_at word place ≡ None → SlotsBelow word symbols known place → SlotsBelow word symbols known (place + 1)
  slot_none symbols known place is before = record {
    many_symbols = before.many_symbols;
    many_known = before.many_known;
    done = λ p below. elim (cases_lt p place) [
      | inl front ↦ before.done p front
      | inr back ↦
          let same : place ≡ p = omega (arith, back, below) in
          subst (λ t. slot_at word t ≡ cond (get_or known t false) (Some (get_or symbols t 0)) None) same
          (is ∙ sym (ap (λ b. cond b (Some (get_or symbols place 0)) None) (before.rest place (omega arith))))
    ];
    rest = λ p behind. before.rest p (omega (arith, behind));
  }

  pub slots_end : (symbols : List ℕ) (known : List Bool) (place : ℕ) → length word ≤ place → SlotsBelow word symbols known place → HasSlots word symbols known
  slots_end symbols known place over below p within = elim (cases_lt p place) [
    | inl front ↦ below.done p front
    | inr behind ↦ get_or_past word p None (omega (arith, over, behind)) ∙ sym (ap (λ b. cond b (Some (get_or symbols p 0)) None) (below.rest p behind))
  ]
