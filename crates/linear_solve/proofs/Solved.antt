-- A vector that is made to solve one pivot's row after the other.
use Rattle.std.proofs.Common.{◌≡◌, inl, inr, ℕ, suc, ◌+◌, ◌-◌, ◌<◌, ◌≤◌, List, [], length, get_or, sym, ◌∙◌, ap, ap₂, subst, arith}
use Rattle.std.proofs.lemmas.Bool.Decides.{eqb_tells}
use Rattle.std.proofs.lemmas.List.{get_or-map, get_or-set_same, get_or-set_other}
use Rattle.algebra.specs.Ring.{Ring}
use Rattle.algebra.specs.Sums.{sum_below}
use Rattle.algebra.specs.Lists.{coefficients}
use Rattle.system_terms.specs.Systems.{row_times}
use Rattle.algebra.proofs.RingLaws.{ring}
use Rattle.algebra.proofs.Sums.{sum_next, sum_same}
use Rattle.system_terms.proofs.Elimination.{row_change}
use Rattle.linear_solve.specs.Tables.{entries}
use Rattle.linear_solve.specs.Pivots.{ArePivots, rows_of, columns_of, inverses_of, settled}
use Rattle.linear_solve.specs.declared.pivot.Pivot.{Pivot}

module _ {F : Type 0} (R : Ring F) where
  infixl 60 ◌⊕◌
  infixl 70 ◌⊗◌
  open R use {nil, unit, plus as ◌⊕◌, times as ◌⊗◌}

  -- one more term at the front of a sum from k on
  pub sum_from_next : (n k : ℕ) (f : ℕ → F) → 0 < k → k ≤ n → f (k - 1) ⊕ sum_below R (n - k) (λ i. f (k + i)) ≡ sum_below R (n - (k - 1)) (λ i. f (k - 1 + i))
  sum_from_next n k f l m =
      let count : n - (k - 1) ≡ suc (n - k) = omega arith in
      let first : k - 1 ≡ k - 1 + 0 = omega arith in
      let each : (i : ℕ) → i < n - k → f (k + i) ≡ f (k - 1 + suc i) = λ i j. let e : k + i ≡ k - 1 + suc i = omega arith in ap f e in
      ap₂ (λ (s t : F). s ⊕ t) (ap f first) (sum_same R (n - k) (λ i. f (k + i)) (λ i. f (k - 1 + suc i)) each)
      ∙ sym (sum_next R (n - k) (λ i. f (k - 1 + i)))
      ∙ ap (λ t. sum_below R t (λ i. f (k - 1 + i))) (sym count)

  -- all terms
  pub sum_from_none : (n k : ℕ) (f : ℕ → F) → k ≡ 0 → sum_below R (n - k) (λ i. f (k + i)) ≡ sum_below R n f
  sum_from_none n k f z =
      let count : n - k ≡ n = omega arith in
      ap (λ t. sum_below R t (λ i. f (k + i))) count ∙ sum_same R n (λ i. f (k + i)) f (λ i l. let e : k + i ≡ i = omega arith in ap f e)

  solved_here : (s a i : F) → a ⊗ i ≡ unit → s ⊕ a ⊗ (s ⊗ i) ≡ nil
  solved_here s a i h =
      let e : s ⊕ a ⊗ (s ⊗ i) ≡ s ⊕ (a ⊗ i) ⊗ s = simp ring in
      e ∙ ap (λ t. s ⊕ t ⊗ s) h ∙ simp ring

  -- what a pivot has at its place
  module _ (pivots : List (Pivot F)) (j : ℕ) (p : Pivot F) (l : j < length pivots) (is : p ≡ get_or pivots j p) where
    pub row_at : get_or (rows_of pivots) j [] ≡ p.row.items
    row_at = get_or-map (λ p. p.row.items) pivots j p [] l ∙ ap (λ p. p.row.items) (sym is)

    pub column_at : get_or (columns_of pivots) j 0 ≡ p.column
    column_at = get_or-map (λ p. p.column) pivots j p 0 l ∙ ap (λ p. p.column) (sym is)

    pub inverse_at : get_or (inverses_of pivots) j nil ≡ p.inverse
    inverse_at = get_or-map (λ p. p.inverse) pivots j p nil l ∙ ap (λ p. p.inverse) (sym is)

  -- the change solves the pivot's row, and leaves those of later pivots solved
  pub settled_solves : (n : ℕ) (pivots : List (Pivot F)) → ArePivots R n pivots → (j : ℕ) (p : Pivot F) → j < length pivots → p ≡ get_or pivots j p
      → (vector : List F) → length vector ≡ n → length p.row.items ≡ n
      → ((i : ℕ) → j + 1 ≤ i → i < length pivots → row_times R n (entries R (rows_of pivots) i) (coefficients R vector) ≡ nil)
      → (i : ℕ) → j ≤ i → i < length pivots → row_times R n (entries R (rows_of pivots) i) (coefficients R (settled R p vector)) ≡ nil
  settled_solves n pivots are j p l is vector long wide old i m b =
      let c : ℕ = p.column in
      let inside : c < n = subst (λ t. t < n) (column_at pivots j p l is) (are.inside j l) in
      let v : F = row_times R (length p.row.items) (coefficients R p.row.items) (coefficients R vector) ⊗ p.inverse in
      let room : c < length vector = omega arith in
      let change : row_times R n (entries R (rows_of pivots) i) (coefficients R (settled R p vector))
      ≡ row_times R n (entries R (rows_of pivots) i) (coefficients R vector) ⊕ entries R (rows_of pivots) i c ⊗ v =
      row_change R n c (entries R (rows_of pivots) i) (coefficients R vector) (coefficients R (settled R p vector)) v inside
      (get_or-set_same vector c (coefficients R vector c ⊕ v) nil room)
      (λ k o d. get_or-set_other vector c k (coefficients R vector c ⊕ v) nil d) in
      elim (eqb_tells i j) [
        | inl e ↦
            let row : get_or (rows_of pivots) i [] ≡ p.row.items = ap (λ t. get_or (rows_of pivots) t []) e.1 ∙ row_at pivots j p l is in
            let inverse : entries R (rows_of pivots) i c ⊗ p.inverse ≡ unit =
            ap (λ t. entries R (rows_of pivots) t c ⊗ p.inverse) e.1
            ∙ ap₂ (λ (s : ℕ) (t : F). entries R (rows_of pivots) j s ⊗ t) (sym (column_at pivots j p l is)) (sym (inverse_at pivots j p l is))
            ∙ are.inverse j l in
            let same : v ≡ row_times R n (entries R (rows_of pivots) i) (coefficients R vector) ⊗ p.inverse =
            ap₂ (λ (s : ℕ) (t : List F). row_times R s (coefficients R t) (coefficients R vector) ⊗ p.inverse) wide (sym row) in
            change ∙ ap (λ t. row_times R n (entries R (rows_of pivots) i) (coefficients R vector) ⊕ entries R (rows_of pivots) i c ⊗ t) same
            ∙ solved_here (row_times R n (entries R (rows_of pivots) i) (coefficients R vector)) (entries R (rows_of pivots) i c) p.inverse inverse
        | inr e ↦
            let zero : entries R (rows_of pivots) i c ≡ nil = ap (entries R (rows_of pivots) i) (sym (column_at pivots j p l is)) ∙ are.later i j (omega (arith, e.1)) b in
            change ∙ ap₂ (λ (s t : F). s ⊕ t ⊗ v) (old i (omega (arith, e.1)) b) zero ∙ simp ring
      ]
