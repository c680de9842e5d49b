-- Where every column is a pivot's, only the zero vector solves the rows.
use Rattle.std.proofs.Common.{◌≡◌, ◌≢◌, inl, inr, ℕ, zero, suc, ◌+◌, ◌<◌, ◌≤◌, List, [], length, get_or, sym, ◌∙◌, ap, arith}
use Rattle.std.proofs.lemmas.Bool.{cases_lt}
use Rattle.std.proofs.lemmas.Bool.Decides.{eqb_tells}
use Rattle.algebra.specs.Ring.{Ring, IsField}
use Rattle.system_terms.specs.Systems.{Solves, OnlyZeroSolves}
use Rattle.algebra.proofs.RingLaws.{ring}
use Rattle.system_terms.proofs.Elimination.{alone}
use Rattle.linear_solve.specs.Tables.{entries}
use Rattle.linear_solve.specs.Pivots.{ArePivots, HaveSameSolutions, rows_of, columns_of, inverses_of}
use Rattle.linear_solve.specs.declared.pivot.Pivot.{Pivot}

module _ {F : Type 0} (R : Ring F) (field : IsField R) (n : ℕ) (pivots : List (Pivot F)) (are : ArePivots R n pivots)
    (none : (k : ℕ) → k < n → ((j : ℕ) → j < length pivots → get_or (columns_of pivots) j 0 ≢ k) → ⊥) where
  infixl 70 ◌⊗◌
  open R use {nil, times as ◌⊗◌}

  -- in the pivots' columns, from the last pivot to the first
  pub zero_at : (x : ℕ → F) → Solves R (length pivots) n (entries R (rows_of pivots)) x
      → (c j : ℕ) → length pivots ≤ j + c → j < length pivots → x (get_or (columns_of pivots) j 0) ≡ nil
  zero_at x h zero j m l = absurd (omega arith)
  zero_at x h (suc c) j m l =
      let column : ℕ = get_or (columns_of pivots) j 0 in
      let row : ℕ → F = entries R (rows_of pivots) j in
      alone R field n column row x (get_or (inverses_of pivots) j nil) (are.inside j l) (are.inverse j l) (h j l)
      (λ k o d. elim (field.decided (row k ⊗ x k)) [
        | inl e ↦ e
        | inr other ↦ absurd (none k o (λ i b e. elim (cases_lt i j) [
          | inl before ↦ other (ap (λ t. t ⊗ x k) (ap row (sym e) ∙ are.later j i before l) ∙ simp ring)
          | inr after ↦ elim (eqb_tells i j) [
            | inl same ↦ d (sym e ∙ ap (λ t. get_or (columns_of pivots) t 0) same.1)
            | inr apart ↦ other (ap (λ t. row k ⊗ t) (ap x (sym e) ∙ zero_at x h c i (omega (arith, apart.1)) b) ∙ simp ring)
          ]
        ]))
      ])

  pub only_zero : (rows : List (List F)) → HaveSameSolutions R n rows [] pivots → OnlyZeroSolves R (length rows) n (entries R rows)
  only_zero rows same x h k l =
      elim (field.decided (x k)) [
        | inl e ↦ e
        | inr d ↦ absurd (none k l (λ j m e. d (ap x (sym e) ∙ zero_at x (same.there x h).1 (length pivots) j (omega arith) m)))
      ]
