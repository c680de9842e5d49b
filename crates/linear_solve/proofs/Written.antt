-- How elimination's rows make up the rows that were.
use Rattle.std.proofs.Common.{◌≡◌, inl, inr, ℕ, suc, ◌+◌, ◌<◌, ◌≤◌, List, [], ◌∷◌, ◌++◌, length, get_or, map, refl, sym, ◌∙◌, ap, ap₂, subst, arith}
use Rattle.std.proofs.Math.Seq.{get_or-append_seam}
use Rattle.std.proofs.lemmas.Bool.{cases_lt}
use Rattle.std.proofs.lemmas.Bool.Decides.{eqb_tells}
use Rattle.std.proofs.lemmas.List.{get_or-map, get_or_past, length-map, get_or_append_left}
use Rattle.algebra.specs.Ring.{Ring, IsField}
use Rattle.algebra.specs.Lists.{coefficients}
use Rattle.algebra.specs.Sums.{sum_below}
use Rattle.system_terms.specs.Systems.{IsZero, IsRank}
use Rattle.algebra.proofs.RingLaws.{ring}
use Rattle.algebra.proofs.Sums.{sum_none, sum_last, sum_same}
use Rattle.linear_solve.specs.Tables.{entries, cleared, HaveLength}
use Rattle.linear_solve.specs.Pivots.{ArePivots, rows_of, columns_of, inverses_of}
use Rattle.linear_solve.specs.declared.pivot.Pivot.{Pivot}
use Rattle.linear_solve.proofs.Rank.{echelon, rank_is}
use Rattle.linear_solve.proofs.Stage.{longer, last_or_not, mapped_earlier, mapped_last, cleared_entry, last_length, front_even}

-- each row that was is the row that is left in its place, or zero, with the pivots' rows times factors;
-- the row chosen as a pivot has the factor one there, and zero at the later pivots
pub record IsWritten {F : Type 0} (R : Ring F) (n : ℕ) (rows left : List (List F)) (pivots : List (Pivot F)) : Type 0 where
  -- for each pivot the factors of the rows
  pub factors : List (List F)
  pub chosen : List ℕ
  pub factors_each : length factors ≡ length pivots
  pub chosen_each : length chosen ≡ length pivots
  pub few : length left ≤ length rows
  pub inside : (j : ℕ) → j < length pivots → get_or chosen j 0 < length rows
  pub taken : (j : ℕ) → j < length pivots → length left ≤ get_or chosen j 0
  pub one : (j : ℕ) → j < length pivots → entries R factors j (get_or chosen j 0) ≡ R.unit
  pub above : (i j : ℕ) → i < j → j < length pivots → entries R factors j (get_or chosen i 0) ≡ R.nil
  pub whole : (i k : ℕ) → i < length rows → k < n
      → entries R rows i k ≡ R.plus (entries R left i k) (sum_below R (length pivots) (λ j. R.times (entries R factors j i) (entries R (rows_of pivots) j k)))

module _ {F : Type 0} (R : Ring F) where
  infixl 60 ◌⊕◌
  infixl 70 ◌⊗◌
  open R use {nil, unit, plus as ◌⊕◌, times as ◌⊗◌}

  -- past the last row all entries are zero
  pub entry_past : (rows : List (List F)) (i k : ℕ) → length rows ≤ i → entries R rows i k ≡ nil
  entry_past rows i k l = ap (λ t. coefficients R t k) (get_or_past rows i [] l) ∙ get_or_past [] k nil (omega arith)

  -- before the first row is taken out
  pub first_written : (n : ℕ) (rows : List (List F)) → IsWritten R n rows rows []
  first_written n rows = record {
    factors = [];
    chosen = [];
    factors_each = refl;
    chosen_each = refl;
    few = omega arith;
    inside = λ j l. absurd (omega arith);
    taken = λ j l. absurd (omega arith);
    one = λ j l. absurd (omega arith);
    above = λ i j l m. absurd (omega arith);
    whole = λ i k l m.
        sym (ap (λ t. entries R rows i k ⊕ t) (sum_none R (λ j. entries R [] j i ⊗ entries R (rows_of []) j k)) ∙ R.plus_comm (entries R rows i k) nil ∙ R.plus_nil (entries R rows i k));
  }

  -- a row of zeros is left out
  pub written_without_zeros : (n : ℕ) (rows left : List (List F)) (row : List F) (pivots : List (Pivot F))
      → IsWritten R n rows (left ++ row ∷ []) pivots → IsZero R (length row) (coefficients R row) → IsWritten R n rows left pivots
  written_without_zeros n rows left row pivots w zeros =
      let more : length (left ++ row ∷ []) ≡ length left + 1 = longer left row in
      let row_is_zero : (k : ℕ) → coefficients R row k ≡ nil = λ k. elim (cases_lt k (length row)) [
        | inl l ↦ zeros k l
        | inr l ↦ get_or_past row k nil l
      ] in
      let same : (i k : ℕ) → entries R (left ++ row ∷ []) i k ≡ entries R left i k = λ i k. elim (cases_lt i (length left)) [
        | inl l ↦ ap (λ t. coefficients R t k) (get_or_append_left left (row ∷ []) [] i l)
        | inr l ↦ elim (eqb_tells i (length left)) [
          | inl e ↦
              ap (λ t. entries R (left ++ row ∷ []) t k) e.1
              ∙ ap (λ t. coefficients R t k) (get_or-append_seam left row [] [])
              ∙ row_is_zero k ∙ sym (entry_past left i k l)
          | inr d ↦ entry_past (left ++ row ∷ []) i k (omega (arith, more, l, d.1)) ∙ sym (entry_past left i k l)
        ]
      ] in
      record {
        factors = w.factors;
        chosen = w.chosen;
        factors_each = w.factors_each;
        chosen_each = w.chosen_each;
        few = omega (arith, more, w.few);
        inside = w.inside;
        taken = λ j l. omega (arith, more, w.taken j l);
        one = w.one;
        above = w.above;
        whole = λ i k l m. w.whole i k l m ∙ ap (λ t. t ⊕ sum_below R (length pivots) (λ j. entries R w.factors j i ⊗ entries R (rows_of pivots) j k)) (same i k);
      }

  -- the other rows are cleared with a row, which is taken out
  pub written_taken_out : (n : ℕ) (rows left : List (List F)) (row : List F) (pivots : List (Pivot F)) (p : Pivot F)
      → HaveLength n (left ++ row ∷ []) → IsWritten R n rows (left ++ row ∷ []) pivots → p.row.items ≡ row
      → IsWritten R n rows (map (cleared R row p.column p.inverse) left) (pivots ++ p ∷ [])
  written_taken_out n rows left row pivots p even w is =
      let clear : List F → List F = cleared R row p.column p.inverse in
      let s : ℕ = length pivots in
      let multiple : List F → F = λ r. coefficients R r p.column ⊗ p.inverse in
      let news : List F = map multiple left ++ unit ∷ [] in
      let factors : List (List F) = w.factors ++ news ∷ [] in
      let chosen : List ℕ = w.chosen ++ length left ∷ [] in
      let more : length (left ++ row ∷ []) ≡ length left + 1 = longer left row in
      let count : length (map clear left) ≡ length left = length-map left clear in
      let count_new : length (map multiple left) ≡ length left = length-map left multiple in
      let long_new : length news ≡ length left + 1 = longer (map multiple left) unit ∙ ap (λ t. t + 1) count_new in
      let long : length row ≡ n = last_length n left row even in
      let wide : HaveLength n left = front_even n left row even in
      let pivots_more : length (pivots ++ p ∷ []) ≡ s + 1 = longer pivots p in
      let old_factors : (j : ℕ) → j < s → get_or factors j [] ≡ get_or w.factors j [] =
      λ j l. get_or_append_left w.factors (news ∷ []) [] j (omega (arith, l, w.factors_each)) in
      let new_factors : get_or factors s [] ≡ news = ap (λ t. get_or factors t []) (sym w.factors_each) ∙ get_or-append_seam w.factors news [] [] in
      let old_chosen : (j : ℕ) → j < s → get_or chosen j 0 ≡ get_or w.chosen j 0 =
      λ j l. get_or_append_left w.chosen (length left ∷ []) 0 j (omega (arith, l, w.chosen_each)) in
      let new_chosen : get_or chosen s 0 ≡ length left = ap (λ t. get_or chosen t 0) (sym w.chosen_each) ∙ get_or-append_seam w.chosen (length left) [] 0 in
      let at_multiple : (i : ℕ) → i < length left → get_or news i nil ≡ multiple (get_or left i []) =
      λ i l. get_or_append_left (map multiple left) (unit ∷ []) nil i (omega (arith, l, count_new)) ∙ get_or-map multiple left i [] nil l in
      let at_unit : get_or news (length left) nil ≡ unit =
      ap (λ t. get_or news t nil) (sym count_new) ∙ get_or-append_seam (map multiple left) unit [] nil in
      let at_rest : (i : ℕ) → length left + 1 ≤ i → get_or news i nil ≡ nil = λ i l. get_or_past news i nil (omega (arith, l, long_new)) in
      let old_row : (j : ℕ) → j < s → get_or (rows_of (pivots ++ p ∷ [])) j [] ≡ get_or (rows_of pivots) j [] =
      λ j l. mapped_earlier pivots p (λ q. q.row.items) j [] l in
      let new_row : get_or (rows_of (pivots ++ p ∷ [])) s [] ≡ row = mapped_last pivots p (λ q. q.row.items) [] ∙ is in
      let old_sum : ℕ → ℕ → F = λ i k. sum_below R s (λ j. entries R w.factors j i ⊗ entries R (rows_of pivots) j k) in
      let term : ℕ → ℕ → ℕ → F = λ i k j. entries R factors j i ⊗ entries R (rows_of (pivots ++ p ∷ [])) j k in
      let new_sum : (i k : ℕ) → sum_below R (length (pivots ++ p ∷ [])) (term i k) ≡ old_sum i k ⊕ get_or news i nil ⊗ coefficients R row k = λ i k.
      ap (λ t. sum_below R t (term i k)) (let e : length (pivots ++ p ∷ []) ≡ suc s = omega (arith, pivots_more) in e)
      ∙ sum_last R s (term i k)
      ∙ ap₂ (λ (x y : F). x ⊕ y)
      (sum_same R s (term i k) (λ j. entries R w.factors j i ⊗ entries R (rows_of pivots) j k)
      (λ j l. ap₂ (λ (x y : List F). coefficients R x i ⊗ coefficients R y k) (old_factors j l) (old_row j l)))
      (ap₂ (λ (x y : List F). coefficients R x i ⊗ coefficients R y k) new_factors new_row) in
      let before : (i k : ℕ) → i < length rows → k < n → entries R rows i k ≡ entries R (left ++ row ∷ []) i k ⊕ old_sum i k = λ i k l m. w.whole i k l m in
      let balance : (i k : ℕ) → k < n → entries R (left ++ row ∷ []) i k ≡ entries R (map clear left) i k ⊕ get_or news i nil ⊗ coefficients R row k = λ i k m.
      elim (cases_lt i (length left)) [
        | inl l ↦
            let entry : entries R (map clear left) i k ≡ entries R left i k ⊕ multiple (get_or left i []) ⊗ coefficients R row k =
            ap (λ t. coefficients R t k) (get_or-map clear left i [] [] l) ∙ cleared_entry R row p.column p.inverse (get_or left i []) k (rw (wide i l) m) (rw long m) in
            let twice : entries R left i k ≡ (entries R left i k ⊕ multiple (get_or left i []) ⊗ coefficients R row k) ⊕ multiple (get_or left i []) ⊗ coefficients R row k = simp ring in
            ap (λ t. coefficients R t k) (get_or_append_left left (row ∷ []) [] i l)
            ∙ twice
            ∙ sym (ap₂ (λ (x y : F). x ⊕ y ⊗ coefficients R row k) entry (at_multiple i l))
        | inr l ↦ elim (eqb_tells i (length left)) [
          | inl e ↦
              let alone_is : coefficients R row k ≡ nil ⊕ unit ⊗ coefficients R row k = simp ring in
              ap (λ t. entries R (left ++ row ∷ []) t k) e.1
              ∙ ap (λ t. coefficients R t k) (get_or-append_seam left row [] [])
              ∙ alone_is
              ∙ sym (ap₂ (λ (x y : F). x ⊕ y ⊗ coefficients R row k) (entry_past (map clear left) i k (omega (arith, l, count))) (ap (λ t. get_or news t nil) e.1 ∙ at_unit))
          | inr d ↦
              let nothing : nil ≡ nil ⊕ nil ⊗ coefficients R row k = simp ring in
              entry_past (left ++ row ∷ []) i k (omega (arith, more, l, d.1))
              ∙ nothing
              ∙ sym (ap₂ (λ (x y : F). x ⊕ y ⊗ coefficients R row k) (entry_past (map clear left) i k (omega (arith, l, count))) (at_rest i (omega (arith, l, d.1))))
        ]
      ] in
      let moved : (x y z : F) → (x ⊕ y) ⊕ z ≡ x ⊕ (z ⊕ y) = λ x y z. simp ring in
      record {
        factors = factors;
        chosen = chosen;
        factors_each = longer w.factors news ∙ ap (λ t. t + 1) w.factors_each ∙ sym pivots_more;
        chosen_each = longer w.chosen (length left) ∙ ap (λ t. t + 1) w.chosen_each ∙ sym pivots_more;
        few = omega (arith, more, count, w.few);
        inside = λ j l. elim (last_or_not pivots p j l) [
          | inl m ↦ subst (λ t. t < length rows) (sym (old_chosen j m)) (w.inside j m)
          | inr e ↦
              subst (λ t. t < length rows) (sym (ap (λ t. get_or chosen t 0) e ∙ new_chosen)) (omega (arith, more, w.few))
        ];
        taken = λ j l. elim (last_or_not pivots p j l) [
          | inl m ↦ omega (arith, old_chosen j m, count, more, w.taken j m)
          | inr e ↦ omega (arith, ap (λ t. get_or chosen t 0) e ∙ new_chosen, count)
        ];
        one = λ j l. elim (last_or_not pivots p j l) [
          | inl m ↦ ap₂ (λ (x : List F) (t : ℕ). coefficients R x t) (old_factors j m) (old_chosen j m) ∙ w.one j m
          | inr e ↦
              ap (λ t. entries R factors t (get_or chosen t 0)) e
              ∙ ap₂ (λ (x : List F) (t : ℕ). coefficients R x t) new_factors new_chosen
              ∙ at_unit
        ];
        above = λ i j l m. elim (last_or_not pivots p j m) [
          | inl o ↦ ap₂ (λ (x : List F) (t : ℕ). coefficients R x t) (old_factors j o) (old_chosen i (omega (arith, l, o))) ∙ w.above i j l o
          | inr e ↦
              let o : i < s = omega (arith, l, e) in
              ap (λ t. entries R factors t (get_or chosen i 0)) e
              ∙ ap₂ (λ (x : List F) (t : ℕ). coefficients R x t) new_factors (old_chosen i o)
              ∙ at_rest (get_or w.chosen i 0) (omega (arith, more, w.taken i o))
        ];
        whole = λ i k l m.
            before i k l m
            ∙ ap (λ t. t ⊕ old_sum i k) (balance i k m)
            ∙ moved (entries R (map clear left) i k) (get_or news i nil ⊗ coefficients R row k) (old_sum i k)
            ∙ ap (λ t. entries R (map clear left) i k ⊕ t) (sym (new_sum i k));
      }

  -- there are as many pivots as the rank
  pub pivots_rank : IsField R → (n : ℕ) (rows : List (List F)) (pivots : List (Pivot F)) → ArePivots R n pivots → IsWritten R n rows [] pivots
      → IsRank R (length rows) n (entries R rows) (length pivots)
  pivots_rank field n rows pivots are w =
      rank_is R field (length rows) n (length pivots) (entries R rows) (entries R (rows_of pivots)) (λ i j. entries R w.factors j i)
      (echelon R field (length pivots) n (entries R (rows_of pivots)) (λ j. get_or (columns_of pivots) j 0) (λ j. get_or (inverses_of pivots) j nil)
      are.inside are.inverse are.later)
      (λ i k l m.
      w.whole i k l m
      ∙ ap (λ t. t ⊕ sum_below R (length pivots) (λ j. entries R w.factors j i ⊗ entries R (rows_of pivots) j k)) (entry_past [] i k (omega arith))
      ∙ R.plus_nil (sum_below R (length pivots) (λ j. entries R w.factors j i ⊗ entries R (rows_of pivots) j k)))
      (λ j. get_or w.chosen j 0) w.inside w.one w.above
