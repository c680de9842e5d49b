-- A stage of elimination, and how one leads to the next.
use Rattle.std.proofs.Common.{◌≡◌, ◌⊎◌, inl, inr, ℕ, ◌+◌, ◌<◌, List, [], ◌∷◌, ◌++◌, length, get_or, map, sym, ◌∙◌, ap, ap₂, subst, arith}
use Rattle.std.proofs.Math.Seq.{get_or-append_seam}
use Rattle.std.proofs.lemmas.Bool.Decides.{eqb_tells}
use Rattle.std.proofs.lemmas.List.{get_or-map, length-map, length-append, map-append, get_or_append_left}
use Rattle.std.proofs.lemmas.Simd.{length-zip2, get_or-zip2}
use Rattle.algebra.specs.Ring.{Ring}
use Rattle.algebra.specs.Lists.{coefficients}
use Rattle.system_terms.specs.Systems.{row_times, IsZero}
use Rattle.algebra.proofs.RingLaws.{ring}
use Rattle.system_terms.proofs.Elimination.{row_zero, cleared_solved}
use Rattle.linear_solve.specs.Tables.{entries, cleared, HaveLength}
use Rattle.linear_solve.specs.Pivots.{ArePivots, HaveSameSolutions, rows_of, columns_of, inverses_of}
use Rattle.linear_solve.specs.declared.pivot.Pivot.{Pivot}

-- the rows that are left are zero in the columns of the pivots, and are solved with the pivots' rows by what solved all rows
pub record IsStage {F : Type 0} (R : Ring F) (n : ℕ) (rows left : List (List F)) (pivots : List (Pivot F)) : Type 0 where
  pub even : HaveLength n left
  pub finished : ArePivots R n pivots
  pub cleared : (i j : ℕ) → j < length pivots → i < length left → entries R left i (get_or (columns_of pivots) j 0) ≡ R.nil
  pub same : HaveSameSolutions R n rows left pivots

module _ {X : Type 0} (xs : List X) (x : X) where
  pub longer : length (xs ++ x ∷ []) ≡ length xs + 1
  longer = length-append xs (x ∷ [])

  pub last_or_not : (i : ℕ) → i < length (xs ++ x ∷ []) → (i < length xs) ⊎ (i ≡ length xs)
  last_or_not i l =
      elim (eqb_tells i (length xs)) [
        | inl e ↦ inr e.1
        | inr e ↦ inl (omega (arith, longer, e.1))
      ]

  pub earlier : (i : ℕ) → i < length xs → i < length (xs ++ x ∷ [])
  earlier i l = omega (arith, longer)

  pub at_last : length xs < length (xs ++ x ∷ [])
  at_last = omega (arith, longer)

  module _ {Y : Type 0} (f : X → Y) where
    pub mapped_earlier : (i : ℕ) (d : Y) → i < length xs → get_or (map f (xs ++ x ∷ [])) i d ≡ get_or (map f xs) i d
    mapped_earlier i d l =
        ap (λ t. get_or t i d) (map-append f xs (x ∷ [])) ∙ get_or_append_left (map f xs) (f x ∷ []) d i (rw (length-map xs f) l)

    pub mapped_last : (d : Y) → get_or (map f (xs ++ x ∷ [])) (length xs) d ≡ f x
    mapped_last d =
        ap₂ (λ (s : List Y) (t : ℕ). get_or s t d) (map-append f xs (x ∷ [])) (sym (length-map xs f)) ∙ get_or-append_seam (map f xs) (f x) [] d

module _ {F : Type 0} (R : Ring F) where
  infixl 60 ◌⊕◌
  infixl 70 ◌⊗◌
  open R use {nil, unit, plus as ◌⊕◌, times as ◌⊗◌}

  -- before the first row is taken out
  pub first_stage : (n : ℕ) (rows : List (List F)) → HaveLength n rows → IsStage R n rows rows []
  first_stage n rows even = record {
    even = even;
    finished = record {
      even = λ i l. absurd (omega arith);
      inside = λ j l. absurd (omega arith);
      inverse = λ j l. absurd (omega arith);
      later = λ i j l m. absurd (omega arith);
    };
    cleared = λ i j l m. absurd (omega arith);
    same = record {
      there = λ x h. (h, λ j l. absurd (omega arith));
      back = λ x h p. h;
    };
  }

  -- a row of zeros is left out
  pub without_zeros : (n : ℕ) (rows left : List (List F)) (row : List F) (pivots : List (Pivot F))
      → IsStage R n rows (left ++ row ∷ []) pivots → IsZero R (length row) (coefficients R row) → IsStage R n rows left pivots
  without_zeros n rows left row pivots stage zeros =
      let at : (i : ℕ) → i < length left → get_or (left ++ row ∷ []) i [] ≡ get_or left i [] = λ i l. get_or_append_left left (row ∷ []) [] i l in
      let long : length row ≡ n = ap length (sym (get_or-append_seam left row [] [])) ∙ stage.even (length left) (at_last left row) in
      record {
        even = λ i l. ap length (sym (at i l)) ∙ stage.even i (earlier left row i l);
        finished = stage.finished;
        cleared = λ i j m l. ap (λ t. coefficients R t (get_or (columns_of pivots) j 0)) (sym (at i l)) ∙ stage.cleared i j m (earlier left row i l);
        same = record {
          there = λ x h.
              let s = stage.same.there x h in
              (λ i l. ap (λ t. row_times R n (coefficients R t) x) (sym (at i l)) ∙ s.0 i (earlier left row i l), s.1);
          back = λ x h p. stage.same.back x
              (λ i l. elim (last_or_not left row i l) [
                | inl m ↦ ap (λ t. row_times R n (coefficients R t) x) (at i m) ∙ h i m
                | inr e ↦ ap (λ t. row_times R n (coefficients R t) x) (ap (λ t. get_or (left ++ row ∷ []) t []) e ∙ get_or-append_seam left row [] [])
                    ∙ row_zero R n (coefficients R row) x (λ k m. zeros k (omega (arith, long)))
              ])
              p;
        };
      }

  cancelled : (a c i : F) → c ⊗ i ≡ unit → a ⊕ (a ⊗ i) ⊗ c ≡ nil
  cancelled a c i h =
      let e : a ⊕ (a ⊗ i) ⊗ c ≡ a ⊕ a ⊗ (c ⊗ i) = simp ring in
      e ∙ ap (λ t. a ⊕ a ⊗ t) h ∙ simp ring

  -- an entry of a cleared row
  pub cleared_entry : (row : List F) (column : ℕ) (inverse : F) (other : List F) (k : ℕ) → k < length other → k < length row
      → coefficients R (cleared R row column inverse other) k ≡ coefficients R other k ⊕ (coefficients R other column ⊗ inverse) ⊗ coefficients R row k
  cleared_entry row column inverse other k l m =
      get_or-zip2 (λ x y. x ⊕ (coefficients R other column ⊗ inverse) ⊗ y) other row k nil nil nil l m

  -- the other rows are cleared with a row, which is taken out
  pub taken_out : (n : ℕ) (rows left : List (List F)) (row : List F) (pivots : List (Pivot F)) (p : Pivot F)
      → IsStage R n rows (left ++ row ∷ []) pivots → p.row.items ≡ row → p.column < length row → coefficients R row p.column ⊗ p.inverse ≡ unit
      → IsStage R n rows (map (cleared R row p.column p.inverse) left) (pivots ++ p ∷ [])
  taken_out n rows left row pivots p stage is inside unit_is =
      let clear : List F → List F = cleared R row p.column p.inverse in
      let at : (i : ℕ) → i < length left → get_or (left ++ row ∷ []) i [] ≡ get_or left i [] = λ i l. get_or_append_left left (row ∷ []) [] i l in
      let last : get_or (left ++ row ∷ []) (length left) [] ≡ row = get_or-append_seam left row [] [] in
      let long : length row ≡ n = ap length (sym last) ∙ stage.even (length left) (at_last left row) in
      let wide : (i : ℕ) → i < length left → length (get_or left i []) ≡ n = λ i l. ap length (sym (at i l)) ∙ stage.even i (earlier left row i l) in
      let from : (i : ℕ) → i < length (map clear left) → i < length left = λ i l. subst (λ t. i < t) (length-map left clear) l in
      let new : (i : ℕ) → i < length left → get_or (map clear left) i [] ≡ clear (get_or left i []) = λ i l. get_or-map clear left i [] [] l in
      let entry : (i k : ℕ) → i < length left → k < n
      → entries R (map clear left) i k ≡ entries R left i k ⊕ (entries R left i p.column ⊗ p.inverse) ⊗ coefficients R row k =
      λ i k l m. ap (λ t. coefficients R t k) (new i l) ∙ cleared_entry row p.column p.inverse (get_or left i []) k (rw (wide i l) m) (rw long m) in
      let old_column : (j : ℕ) → j < length pivots → get_or (columns_of (pivots ++ p ∷ [])) j 0 ≡ get_or (columns_of pivots) j 0 =
      λ j l. mapped_earlier pivots p (λ q. q.column) j 0 l in
      let new_column : get_or (columns_of (pivots ++ p ∷ [])) (length pivots) 0 ≡ p.column = mapped_last pivots p (λ q. q.column) 0 in
      let old_row : (j : ℕ) → j < length pivots → get_or (rows_of (pivots ++ p ∷ [])) j [] ≡ get_or (rows_of pivots) j [] =
      λ j l. mapped_earlier pivots p (λ q. q.row.items) j [] l in
      let new_row : get_or (rows_of (pivots ++ p ∷ [])) (length pivots) [] ≡ row = mapped_last pivots p (λ q. q.row.items) [] ∙ is in
      let row_cleared : (j : ℕ) → j < length pivots → coefficients R row (get_or (columns_of pivots) j 0) ≡ nil =
      λ j l. ap (λ t. coefficients R t (get_or (columns_of pivots) j 0)) (sym last) ∙ stage.cleared (length left) j l (at_last left row) in
      let left_cleared : (i j : ℕ) → i < length left → j < length pivots → entries R left i (get_or (columns_of pivots) j 0) ≡ nil =
      λ i j l m. ap (λ t. coefficients R t (get_or (columns_of pivots) j 0)) (sym (at i l)) ∙ stage.cleared i j m (earlier left row i l) in
      let same : (i : ℕ) (x : ℕ → F) → i < length left → row_times R n (coefficients R row) x ≡ nil
      → row_times R n (entries R (map clear left) i) x ≡ row_times R n (entries R left i) x =
      λ i x l z. cleared_solved R n (entries R left i p.column ⊗ p.inverse) (entries R left i) (entries R (map clear left) i) (coefficients R row) x (λ k m. entry i k l m) z in
      record {
        even = λ i l.
            ap length (new i (from i l))
            ∙ length-zip2 (λ x y. x ⊕ (coefficients R (get_or left i []) p.column ⊗ p.inverse) ⊗ y) (get_or left i []) row (wide i (from i l) ∙ sym long)
            ∙ wide i (from i l);
        finished = record {
          even = λ j l. elim (last_or_not pivots p j (subst (λ t. j < t) (length-map (pivots ++ p ∷ []) (λ q. q.row.items)) l)) [
            | inl m ↦ ap length (old_row j m) ∙ stage.finished.even j (rw (length-map pivots (λ q. q.row.items)) m)
            | inr e ↦ ap (λ t. length (get_or (rows_of (pivots ++ p ∷ [])) t [])) e ∙ ap length new_row ∙ long
          ];
          inside = λ j l. elim (last_or_not pivots p j l) [
            | inl m ↦ subst (λ t. t < n) (sym (old_column j m)) (stage.finished.inside j m)
            | inr e ↦ subst (λ t. t < n) (sym (ap (λ t. get_or (columns_of (pivots ++ p ∷ [])) t 0) e ∙ new_column)) (subst (λ t. p.column < t) long inside)
          ];
          inverse = λ j l. elim (last_or_not pivots p j l) [
            | inl m ↦
                ap₂ (λ (s : List F) (t : ℕ). coefficients R s t ⊗ get_or (inverses_of (pivots ++ p ∷ [])) j nil) (old_row j m) (old_column j m)
                ∙ ap (λ t. entries R (rows_of pivots) j (get_or (columns_of pivots) j 0) ⊗ t) (mapped_earlier pivots p (λ q. q.inverse) j nil m)
                ∙ stage.finished.inverse j m
            | inr e ↦
                ap (λ t. entries R (rows_of (pivots ++ p ∷ [])) t (get_or (columns_of (pivots ++ p ∷ [])) t 0) ⊗ get_or (inverses_of (pivots ++ p ∷ [])) t nil) e
                ∙ ap₂ (λ (s : List F) (t : ℕ). coefficients R s t ⊗ get_or (inverses_of (pivots ++ p ∷ [])) (length pivots) nil) new_row new_column
                ∙ ap (λ t. coefficients R row p.column ⊗ t) (mapped_last pivots p (λ q. q.inverse) nil)
                ∙ unit_is
          ];
          later = λ i j l m. elim (last_or_not pivots p i m) [
            | inl o ↦ ap₂ (λ (s : List F) (t : ℕ). coefficients R s t) (old_row i o) (old_column j (omega arith)) ∙ stage.finished.later i j l o
            | inr e ↦
                let before : j < length pivots = omega arith in
                ap (λ t. entries R (rows_of (pivots ++ p ∷ [])) t (get_or (columns_of (pivots ++ p ∷ [])) j 0)) e
                ∙ ap₂ (λ (s : List F) (t : ℕ). coefficients R s t) new_row (old_column j before)
                ∙ row_cleared j before
          ];
        };
        cleared = λ i j m l. elim (last_or_not pivots p j m) [
          | inl o ↦
              ap (entries R (map clear left) i) (old_column j o)
              ∙ entry i (get_or (columns_of pivots) j 0) (from i l) (stage.finished.inside j o)
              ∙ ap₂ (λ (s t : F). s ⊕ (entries R left i p.column ⊗ p.inverse) ⊗ t) (left_cleared i j (from i l) o) (row_cleared j o)
              ∙ simp ring
          | inr e ↦
              ap (entries R (map clear left) i) (ap (λ t. get_or (columns_of (pivots ++ p ∷ [])) t 0) e ∙ new_column)
              ∙ entry i p.column (from i l) (subst (λ t. p.column < t) long inside)
              ∙ cancelled (entries R left i p.column) (coefficients R row p.column) p.inverse unit_is
        ];
        same = record {
          there = λ x h.
              let s = stage.same.there x h in
              let z : row_times R n (coefficients R row) x ≡ nil = ap (λ t. row_times R n (coefficients R t) x) (sym last) ∙ s.0 (length left) (at_last left row) in (
                λ i l. same i x (from i l) z ∙ ap (λ t. row_times R n (coefficients R t) x) (sym (at i (from i l))) ∙ s.0 i (earlier left row i (from i l)),
                λ j l. elim (last_or_not pivots p j l) [
                  | inl m ↦ ap (λ t. row_times R n (coefficients R t) x) (old_row j m) ∙ s.1 j m
                  | inr e ↦ ap (λ t. row_times R n (entries R (rows_of (pivots ++ p ∷ [])) t) x) e ∙ ap (λ t. row_times R n (coefficients R t) x) new_row ∙ z
                ],
              );
          back = λ x h q.
              let z : row_times R n (coefficients R row) x ≡ nil = ap (λ t. row_times R n (coefficients R t) x) (sym new_row) ∙ q (length pivots) (at_last pivots p) in
              stage.same.back x
              (λ i l. elim (last_or_not left row i l) [
                | inl m ↦ ap (λ t. row_times R n (coefficients R t) x) (at i m) ∙ sym (same i x m z) ∙ h i (rw (length-map left clear) m)
                | inr e ↦ ap (λ t. row_times R n (coefficients R t) x) (ap (λ t. get_or (left ++ row ∷ []) t []) e ∙ last) ∙ z
              ])
              (λ j m. ap (λ t. row_times R n (coefficients R t) x) (sym (old_row j m)) ∙ q j (earlier pivots p j m));
        };
      }

module _ {F : Type 0} (n : ℕ) (left : List (List F)) (row : List F) (even : HaveLength n (left ++ row ∷ [])) where
  pub last_length : length row ≡ n
  last_length = ap length (sym (get_or-append_seam left row [] [])) ∙ even (length left) (at_last left row)

  pub front_even : HaveLength n left
  front_even i l = ap length (sym (get_or_append_left left (row ∷ []) [] i l)) ∙ even i (earlier left row i l)
