-- Derivatives of a curve from its table.
use Rattle.std.proofs.Common.{◌≡◌, ◌⊎◌, inl, inr, ℕ, zero, suc, ◌+◌, ◌-◌, ◌*◌, ◌^◌, ◌<◌, ◌≤◌, List, length, take, Option, None, Some, get_or, refl, ◌∙◌, sym, ap, subst, arith}
use Rattle.std.proofs.lemmas.Bool.{cases_lt}
use Rattle.std.proofs.lemmas.List.{get_or-take, get_or_default, get_or_past, length-take}
use Rattle.algebra.specs.Lists.{coefficients}
use Rattle.algebra.specs.Ring.{Ring}
use Rattle.algebra.specs.Roots.{total}
use Rattle.gs_koetter.proofs.Laying.{cell_inside}
use Rattle.gs_koetter.proofs.Splitting.{past_rows}
use Rattle.decoding_terms.specs.Parameters.{term_count}
use Rattle.koetter_terms.specs.Curves.{IsTile, curve}
use Rattle.koetter_terms.specs.Derivatives.{derivative, derivative_at}
use Rattle.koetter_terms.specs.State.{Conditions, Handled}
use Rattle.koetter_terms.proofs.Derivatives.{derivative_more, derivative_same}
use Rattle.koetter_terms.proofs.Orders.{handled_point}
use Rattle.term_lists.specs.Places.{place}
use Rattle.gs_koetter.specs.declared.curve.Curve.{Curve}
use Rattle.gs_koetter.specs.Shapes.{HaveShape, IsEnded, coefs_of, slot}
use Rattle.gs_koetter.specs.States.{AreDerived, IsBare, IsDerived, IsState, spent}
use Rattle.gs_koetter.specs.Tables.{AreSquares, entry}
use Rattle.std.specs.List.{slice_range}
use Rattle.gs_koetter.proofs.Parts.{coefficient_at}
use Rattle.gs_koetter.proofs.Pivots.{not_some, one_some}

pub slot_is : {X : Type 0} (xs : List (Option X)) (k : ℕ) (x : X) (item : Option X) → k < length xs → item ≡ get_or xs k item → item ≡ Some x → get_or xs k None ≡ Some x
slot_is xs k x item l is some = get_or_default xs k None item l ∙ sym is ∙ some

module _ {F : Type 0} (R : Ring F) where
  open R use {nil}

  -- the coefficients up to the leading one, after which there are only zeros
  pub front_same : (c : Curve F) (list : List F) → list ≡ c.list.items → IsEnded R c → (k : ℕ) → coefficients R (slice_range list c.orders (c.orders + c.len)) k ≡ coefficients R (coefs_of c) k
  front_same c list is end k =
      let n : c.orders + c.len - c.orders ≡ c.len = omega arith in
      ap (λ t. coefficients R (slice_range t c.orders (c.orders + c.len)) k) is ∙ ap (λ m. coefficients R (take m (coefs_of c)) k) n ∙ by_order (cases_lt k c.len)
    where
      by_order : (k < c.len) ⊎ (c.len ≤ k) → coefficients R (take c.len (coefs_of c)) k ≡ coefficients R (coefs_of c) k
      by_order (inl less) = get_or-take c.len (coefs_of c) k nil less
      by_order (inr most) =
          get_or_past (take c.len (coefs_of c)) k nil (omega (arith, length-take c.len (coefs_of c), most))
          ∙ sym (coefficient_at R c c.orders k refl ∙ end.rest (c.orders + k) (omega (arith, most)))

  -- the derivatives from a table of the coefficients, by that of the derivatives in x and the same turned
  pub derived_tile : (w e n s p q : ℕ) (coefs table folded turned square tile : List F) (a b : F) → e ≤ 2 ^ p → n ≤ 2 ^ q → length table ≡ e * n → length turned ≡ n * s
      → ((i j : ℕ) → i < e → j < n → entry R n table i j ≡ curve R w coefs i j)
      → ((u j : ℕ) → j < n → u * n + j < s * n → entry R n folded u j ≡ derivative R (2 ^ p) (λ i. entry R n table i j) a u)
      → ((u j : ℕ) → u < s → j < n → entry R s turned j u ≡ entry R n folded u j)
      → ((v u : ℕ) → u < s → v * s + u < s * s → entry R s square v u ≡ derivative R (2 ^ q) (λ j. entry R s turned j u) b v)
      → ((u v : ℕ) → u + v < s → curve R 1 tile u v ≡ entry R s square v u) → IsTile R e n s (curve R w coefs) a b tile
  derived_tile w e n s p q coefs table folded turned square tile a b tall wide table_long turned_long laid in_x turn in_y picked u v l =
      let u_in : u < s = omega (arith, l) in
      let v_in : v < s = omega (arith, l) in
      picked u v l
      ∙ in_y v u u_in (cell_inside s s v u v_in u_in)
      ∙ sym (derivative_more R n (2 ^ q) (λ j. entry R s turned j u) b v wide (past_rows R n s u turned (omega (arith, turned_long))))
      ∙ derivative_same R n (λ j. entry R s turned j u) (λ j. derivative R e (λ i. curve R w coefs i j) a u) b v
      (λ j m.
      turn u j u_in m
      ∙ in_x u j m (cell_inside s n u j u_in m)
      ∙ sym (derivative_more R e (2 ^ p) (λ i. entry R n table i j) a u tall (past_rows R e n j table (omega (arith, table_long))))
      ∙ derivative_same R e (λ i. entry R n table i j) (λ i. curve R w coefs i j) a u (λ i k. laid i j k m))

  -- with the derivatives of all curves the state at a point is whole
  module _ (w e n s : ℕ) (xs ys : List F) (old new : List (Option (Curve F))) (derived : (j : ℕ) → AreDerived R w e n s xs ys (slot old j) (slot new j)) where
    before : (j : ℕ) (c : Curve F) (o q : Option (Curve F)) → AreDerived R w e n s xs ys o q → q ≡ Some c → (b : Curve F) × (o ≡ Some b) × IsDerived R w e n s xs ys b c
    before j c None None is there = absurd (not_some c None refl there)
    before j c None (Some q) is there = absurd is
    before j c (Some o) None is there = absurd (not_some c None refl there)
    before j c (Some o) (Some q) is there = (o, refl, subst (IsDerived R w e n s xs ys o) (one_some q c (Some q) refl there) is)

    pub shape_derived : HaveShape R w e s old → HaveShape R w e s new
    shape_derived shape j c there =
        let was = before j c (slot old j) (slot new j) (derived j) there in
        let whole = shape j was.0 was.1 in
        let is = was.2 in
        record {
          list = is.long ∙ whole.list;
          orders = is.orders ∙ whole.orders;
          len = is.len ∙ whole.len ∙ ap (λ x. place w x j + 1) (sym is.exponent);
          light = subst (λ x. x + w * j < e) (sym is.exponent) whole.light;
          ends = λ k l. ap (λ t. coefficients R t k) is.coefs ∙ whole.ends k (subst (λ x. place w x j < k) is.exponent l);
        }

    pub state_derived : (met : Conditions F) (a b : F) (handled : ℕ) → AreSquares R a xs → AreSquares R b ys → IsBare R w e n met handled old → IsState R w e n s met a b handled new
    state_derived met a b handled a_powers b_powers bare = record {
      kept = λ j c there.
          let was = before j c (slot old j) (slot new j) (derived j) there in
          let is = was.2 in
          let same = is.coefs in
          record {
            lead = λ z. bare.lead j was.0 was.1 (ap (λ x. curve R w (coefs_of was.0) x j) (sym is.exponent) ∙ ap (λ t. curve R w t c.exponent j) (sym same) ∙ z);
            tiled = subst (λ t. IsTile R e n s (curve R w t) a b c.list.items) (sym same) (is.tile a b a_powers b_powers);
            meets = λ x y u v m. ap (λ t. derivative_at R e n (curve R w t) x y u v) same ∙ bare.meets j was.0 was.1 x y u v m;
          };
      few = let even = total_same n (λ j. spent w e j (slot old j)) (λ j. spent w e j (slot new j)) (λ j. same_spent j (slot old j) (slot new j) (derived j)) in omega (arith, even, bare.few);
    }
      where
        same_spent : (j : ℕ) (o q : Option (Curve F)) → AreDerived R w e n s xs ys o q → spent w e j q ≡ spent w e j o
        same_spent j None None is = refl
        same_spent j None (Some q) is = absurd is
        same_spent j (Some o) None is = absurd is
        same_spent j (Some o) (Some q) is = is.exponent

        total_same : (k : ℕ) (f g : ℕ → ℕ) → ((j : ℕ) → g j ≡ f j) → total k g ≡ total k f
        total_same zero f g same = refl
        total_same (suc k) f g same = omega (arith, total_same k f g same, same k)

  -- after a point what is left is what the next point needs
  pub bare_after : (w e n s i handled : ℕ) (points : ℕ → F × F) (a b : F) (curves : List (Option (Curve F))) → IsState R w e n s (Handled points s i (term_count 1 s)) a b handled curves
      → IsBare R w e n (Handled points s (i + 1) 0) handled curves
  bare_after w e n s i handled points a b curves state =
      let next : suc i ≡ i + 1 = omega arith in
      subst (λ k. IsBare R w e n (Handled points s k 0) handled curves) next (record {
        lead = λ j c is. (state.kept j c is).lead;
        meets = λ j c is x y u v m. (state.kept j c is).meets x y u v (handled_point points s i x y u v m);
        few = state.few;
      })
