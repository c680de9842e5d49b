-- A multiple of a row added to a row among others.
use Rattle.std.proofs.Common.{◌≡◌, inl, inr, ℕ, ◌+◌, ◌<◌, ◌≤◌, List, [], length, get_or, set, sym, ◌∙◌, ap, ap₂, subst, arith}
use Rattle.std.proofs.lemmas.Bool.{cases_lt, cases_eq}
use Rattle.std.proofs.lemmas.List.{get_or-set_same, get_or-set_other}
use Rattle.std.proofs.Math.Numerals.{add-one}
use Rattle.algebra.specs.Ring.{Ring}
use Rattle.algebra.specs.Lists.{coefficients, IsListOf}
use Rattle.algebra.specs.Roots.{total}
use Rattle.algebra.proofs.RingLaws.{ring}
use Rattle.bi_poly.specs.Rows.{row_at, cell, HaveRoom, AreLimited}
use Rattle.bi_poly.proofs.Cells.{cell_replaced, cell_beside}

-- one term more
pub total_more : (j : ℕ) (m : ℕ → ℕ) → total (j + 1) m ≡ m j + total j m
total_more j m = ap (λ n. total n m) (add-one j)

module _ {F : Type 0} (R : Ring F) (number : F → ℕ) (nil_is : number R.nil ≡ 0) (same : (x y : F) → number x ≡ number y → x ≡ y) where
  infixl 60 ◌⊕◌
  infixl 70 ◌⊗◌
  open R use {nil, plus as ◌⊕◌, times as ◌⊗◌}

  -- the rows before j have what is added, those from j on are as they were
  pub record AreAdded (old others : List (List F)) (factor : F) (j : ℕ) (rows : List (List F)) : Type 0 where
    pub sums : (i h : ℕ) → h < j → cell R rows i h ≡ cell R old i h ⊕ factor ⊗ cell R others i h
    pub rest : (i h : ℕ) → j ≤ h → cell R rows i h ≡ cell R old i h

  -- and the row of y^j too
  module _ (old others rows : List (List F)) (factor : F) (j : ℕ) (row other list : List F) (inside : j < length rows)
      (so_far : AreAdded old others factor j rows) (other_is : other ≡ get_or others j []) (is : IsListOf R (coefficients R other) list)
      (added : (k : ℕ) → coefficients R row (0 + k) ≡ coefficients R (row_at rows j) (0 + k) ⊕ factor ⊗ coefficients R list k) where
    here : (i : ℕ) → cell R (set rows j row) i j ≡ cell R old i j ⊕ factor ⊗ cell R others i j
    here i =
        let place : 0 + i ≡ i = omega arith in
        cell_replaced R number nil_is same rows j i row inside
        ∙ ap (coefficients R row) (sym place)
        ∙ added i
        ∙ ap₂ (λ (s t : F). s ⊕ factor ⊗ t) (ap (coefficients R (row_at rows j)) place ∙ so_far.rest i j (omega arith)) (is.each i ∙ ap (λ (t : List F). coefficients R t i) other_is)

    pub added_row : AreAdded old others factor (j + 1) (set rows j row)
    added_row = record {
      sums = λ i h l. elim (cases_eq h j) [
        | inl e ↦ ap (cell R (set rows j row) i) e ∙ here i ∙ sym (ap₂ (λ (s t : F). s ⊕ factor ⊗ t) (ap (cell R old i) e) (ap (cell R others i) e))
        | inr n ↦ cell_beside R number nil_is same rows j i h row n ∙ so_far.sums i h (omega arith)
      ];
      rest = λ i h l. cell_beside R number nil_is same rows j i h row (λ e. absurd (omega arith)) ∙ so_far.rest i h (omega arith);
    }

  -- a row replaced by one as long leaves as much room
  pub room_kept : (others rows : List (List F)) (count j : ℕ) (row : List F) → j < length rows → length row ≡ length (row_at rows j) → HaveRoom R others count rows → HaveRoom R others count (set rows j row)
  room_kept others rows count j row inside long room i h l o = elim (cases_eq h j) [
    | inl e ↦
        let wide : length (row_at (set rows j row) h) ≡ length row = ap length (ap (row_at (set rows j row)) e ∙ get_or-set_same rows j row [] inside) in
        let before : i < length (row_at rows h) = room i h l o in
        let old : length (row_at rows h) ≡ length (row_at rows j) = ap (λ t. length (row_at rows t)) e in
        omega arith
    | inr n ↦ subst (λ t. i < length t) (sym (get_or-set_other rows j h row [] n)) (room i h l o)
  ]

  -- all rows
  pub added_rows : (old others rows : List (List F)) (factor : F) (n : ℕ) → AreAdded old others factor n rows → ((i j : ℕ) → n ≤ j → cell R others i j ≡ nil)
      → (i j : ℕ) → cell R rows i j ≡ cell R old i j ⊕ factor ⊗ cell R others i j
  added_rows old others rows factor n added none i j = elim (cases_lt j n) [
    | inl l ↦ added.sums i j l
    | inr l ↦
        let nothing : cell R old i j ≡ cell R old i j ⊕ factor ⊗ nil = simp ring in
        added.rest i j l ∙ nothing ∙ ap (λ t. cell R old i j ⊕ factor ⊗ t) (sym (none i j l))
  ]

  -- the sums are within the limits
  pub limits_added : (old others rows : List (List F)) (factor : F) → ((i j : ℕ) → cell R rows i j ≡ cell R old i j ⊕ factor ⊗ cell R others i j)
      → AreLimited R old → AreLimited R others → AreLimited R rows
  limits_added old others rows factor sums a b =
      let nothing : nil ⊕ factor ⊗ nil ≡ nil = simp ring in
      record {
        x = λ i j l. sums i j ∙ ap₂ (λ (s t : F). s ⊕ factor ⊗ t) (a.x i j l) (b.x i j l) ∙ nothing;
        y = λ i j l. sums i j ∙ ap₂ (λ (s t : F). s ⊕ factor ⊗ t) (a.y i j l) (b.y i j l) ∙ nothing;
      }
