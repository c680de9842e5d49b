-- A step from one state to the next.
use Rattle.std.specs.Prelude.{slice_index_or}
use Rattle.std.proofs.Common.{◌≡◌, ◌≢◌, ◌⊎◌, inl, inr, ℕ, zero, suc, ◌+◌, ◌*◌, ◌<◌, ◌≤◌, List, Option, None, Some, refl, ◌∙◌, sym, ap, ap₂, subst, arith}
use Rattle.std.proofs.lemmas.Bool.{cases_lt}
use Rattle.std.proofs.lemmas.Bool.Decides.{eqb_tells}
use Rattle.algebra.specs.Ring.{Ring}
use Rattle.algebra.specs.Roots.{total}
use Rattle.algebra.proofs.RingLaws.{nil_times, times_nil}
use Rattle.koetter_terms.specs.Curves.{AreQuotients, IsSum, curve}
use Rattle.koetter_terms.specs.Derivatives.{derivative_at}
use Rattle.koetter_terms.specs.State.{Conditions, IsKept}
use Rattle.koetter_terms.proofs.Places.{place_same}
use Rattle.koetter_terms.proofs.Steps.{kept_more, kept_raised, kept_sum, met_raised, met_sum}
use Rattle.term_lists.specs.Places.{place}
use Rattle.gs_koetter.specs.declared.curve.Curve.{Curve}
use Rattle.gs_koetter.specs.Shapes.{AreCancelled, HasShape, HaveShape, IsCancelled, IsProduct, at_place, coefs_of, slot, tile_of}
use Rattle.gs_koetter.specs.States.{IsState, spent}
use Rattle.decoding_terms.specs.Parameters.{term_count}
use Rattle.gs_koetter.proofs.Parts.{coefs_sum, drop_long, front_kept, take_long, whole_kept}
use Rattle.gs_koetter.proofs.Pivots.{one_some, not_some}

-- a sum of which one part grows by one
pub total_step : (n p : ℕ) (f g : ℕ → ℕ) → ((j : ℕ) → j ≢ p → g j ≡ f j) → g p ≤ suc (f p) → total n g ≤ suc (total n f)
total_step zero p f g same one = omega arith
total_step (suc n) p f g same one = elim (eqb_tells n p) [
  | inl is ↦
      let here : g n ≤ suc (f n) = subst (λ k. g k ≤ suc (f k)) (sym is.1) one in
      let rest : total n g ≡ total n f = total_same n p f g same (omega (arith, is.1)) in
      omega (arith, here, rest)
  | inr apart ↦
      let here : g n ≡ f n = same n apart.1 in
      let rest : total n g ≤ suc (total n f) = total_step n p f g same one in
      omega (arith, here, rest)
]
  where
    total_same : (n p : ℕ) (f g : ℕ → ℕ) → ((j : ℕ) → j ≢ p → g j ≡ f j) → n ≤ p → total n g ≡ total n f
    total_same zero p f g same l = refl
    total_same (suc n) p f g same l =
        let here : g n ≡ f n = same n (λ e. absurd (omega (arith, e, l))) in
        let rest : total n g ≡ total n f = total_same n p f g same (omega (arith, l)) in
        omega (arith, here, rest)

module _ {F : Type 0} (R : Ring F) (decided : (x : F) → (x ≡ R.nil) ⊎ (x ≢ R.nil)) (w e n s : ℕ) (some : 1 ≤ w) (quotients shifts : List ℕ) (are : AreQuotients w e quotients) (shifted : AreQuotients 1 s shifts)
    (a inverse : F) (number p : ℕ) (pivot : Curve F) (result : Option (Curve F)) (old new : List (Option (Curve F))) (shape : HaveShape R w e s old) (stands : slot old p ≡ Some pivot)
    (invertible : R.times (at_place R number pivot) inverse ≡ R.unit) (least : (j : ℕ) (c : Curve F) → slot old j ≡ Some c → at_place R number c ≢ R.nil → pivot.len ≤ c.len)
    (others : (j : ℕ) → j ≢ p → AreCancelled R number inverse pivot (slot old j) (slot new j)) (here : slot new p ≡ result) (product : (c : Curve F) → result ≡ Some c → IsProduct R quotients shifts a pivot c)
    (result_shape : (c : Curve F) → result ≡ Some c → HasShape R w e s p c) (dropped : result ≡ None → e ≤ suc pivot.exponent + w * p) where
  open R use {nil}

  -- a curve that is kept beside the pivot was kept before
  before : (j : ℕ) (c : Curve F) (o q : Option (Curve F)) → AreCancelled R number inverse pivot o q → q ≡ Some c → (b : Curve F) × (o ≡ Some b) × IsCancelled R number inverse pivot b c
  before j c None None is e = absurd (not_some c None refl e)
  before j c None (Some q) is e = absurd is
  before j c (Some o) None is e = absurd (not_some c None refl e)
  before j c (Some o) (Some q) is e = (o, refl, subst (IsCancelled R number inverse pivot o) (one_some q c (Some q) refl e) is)

  pub shape_step : HaveShape R w e s new
  shape_step j c there = elim (eqb_tells j p) [
    | inl is ↦ subst (λ k. HasShape R w e s k c) (sym is.1) (result_shape c (sym here ∙ ap (slot new) (sym is.1) ∙ there))
    | inr apart ↦
        let was = before j c (slot old j) (slot new j) (others j apart.1) there in
        let whole = shape j was.0 was.1 in
        let led = shape p pivot stands in
        let cancelled = was.2 in
        record {
          list = cancelled.long ∙ whole.list;
          orders = cancelled.orders ∙ whole.orders;
          len = cancelled.len ∙ whole.len ∙ ap (λ x. place w x j + 1) (sym cancelled.exponent);
          light = subst (λ x. x + w * j < e) (sym cancelled.exponent) whole.light;
          ends = λ k l.
              let late : place w was.0.exponent j < k = subst (λ x. place w x j < k) cancelled.exponent l in
              coefs_sum R (term_count 1 s) (R.times (at_place R number was.0) inverse) pivot was.0 c led.orders whole.orders (cancelled.orders ∙ whole.orders) cancelled.list k ∙ ap₂ (λ (t z : F). R.plus t z) (whole.ends k late) (pivot_nil j was.0 was.1 k late) ∙ R.plus_nil nil;
        }
  ]
    where
      pivot_nil : (j : ℕ) (b : Curve F) → slot old j ≡ Some b → (k : ℕ) → place w b.exponent j < k
          → R.times (R.times (at_place R number b) inverse) (slice_index_or (coefs_of pivot) k nil) ≡ nil
      pivot_nil j b is k l = elim (decided (at_place R number b)) [
        | inl z ↦ ap (λ t. R.times (R.times t inverse) (slice_index_or (coefs_of pivot) k nil)) z ∙ ap (λ t. R.times t (slice_index_or (coefs_of pivot) k nil)) (nil_times R inverse) ∙ nil_times R (slice_index_or (coefs_of pivot) k nil)
        | inr d ↦
            let led = shape p pivot stands in
            let whole = shape j b is in
            let most = least j b is d in
            ap (λ t. R.times (R.times (at_place R number b) inverse) t) (led.ends k (omega (arith, most, led.len, whole.len, l))) ∙ times_nil R (R.times (at_place R number b) inverse)
      ]

  module _ (met more : Conditions F) (b : F) (u v handled : ℕ) (at : place 1 u v ≡ number) (few : u + v < s) (state : IsState R w e n s met a b handled old)
      (lower : (c d : F) (h k : ℕ) → met c d (suc h) k → met c d h k) (lower_here : (t : ℕ) → suc t ≡ u → met a b t v)
      (added : (c d : F) (h k : ℕ) → more c d h k → met c d h k ⊎ ((c ≡ a) × (d ≡ b) × (h ≡ u) × (k ≡ v))) where
    -- what stands at the place is the derivative
    stored : (j : ℕ) (c : Curve F) → slot old j ≡ Some c → at_place R number c ≡ derivative_at R e n (curve R w (coefs_of c)) a b u v
    stored j c is = ap (slice_index_at c.list.items) (sym at) ∙ (state.kept j c is).tiled u v few
      where
        slice_index_at : List F → ℕ → F
        slice_index_at list k = slice_index_or list k nil

    pub state_step : IsState R w e n s more a b (suc handled) new
    state_step = record {
      kept = kept;
      few =
          let grown = total_step n p (λ j. spent w e j (slot old j)) (λ j. spent w e j (slot new j)) (λ j apart. same j (slot old j) (slot new j) (others j apart)) (one (slot new p) here) in
          omega (arith, grown, state.few);
    }
      where
        led : HasShape R w e s p pivot
        led = shape p pivot stands

        pivot_kept : IsKept R w e n s met a b p pivot.exponent (coefs_of pivot) pivot.list.items
        pivot_kept = state.kept p pivot stands

        beside : (j : ℕ) (c o : Curve F) → j ≢ p → slot old j ≡ Some o → IsCancelled R number inverse pivot o c → IsKept R w e n s more a b j c.exponent (coefs_of c) c.list.items
        beside j c o apart is cancelled = subst (λ x. IsKept R w e n s more a b j x (coefs_of c) c.list.items) (sym cancelled.exponent)
            (kept_more R w e n s some met a b more u v j o.exponent (coefs_of c) c.list.items
            (kept_sum R w e n s some met a b j o.exponent p pivot.exponent (R.times (at_place R number o) inverse) (coefs_of o) o.list.items (coefs_of pivot) pivot.list.items (coefs_of c) c.list.items
            (state.kept j o is) pivot_kept led.ends order coefs cancelled.list)
            (met_sum R w e n s some met a b u v inverse (coefs_of o) (coefs_of pivot) (coefs_of c)
            (ap (λ t. R.times t inverse) (sym (stored p pivot stands)) ∙ invertible)
            (subst (λ t. IsSum R (R.times t inverse) (coefs_of pivot) (coefs_of o) (coefs_of c)) (stored j o is) coefs))
            added)
          where
            coefs : IsSum R (R.times (at_place R number o) inverse) (coefs_of pivot) (coefs_of o) (coefs_of c)
            coefs = let whole = shape j o is in coefs_sum R (term_count 1 s) (R.times (at_place R number o) inverse) pivot o c led.orders whole.orders (cancelled.orders ∙ whole.orders) cancelled.list

            order : (R.times (at_place R number o) inverse ≡ nil) ⊎ (place w pivot.exponent p < place w o.exponent j)
            order = elim (decided (at_place R number o)) [
              | inl z ↦ inl (ap (λ t. R.times t inverse) z ∙ nil_times R inverse)
              | inr d ↦
                  let whole = shape j o is in
                  let most = least j o is d in
                  inr (strictly (cases_lt (place w pivot.exponent p) (place w o.exponent j)) (omega (arith, most, led.len, whole.len)))
            ]
              where
                strictly : (place w pivot.exponent p < place w o.exponent j) ⊎ (place w o.exponent j ≤ place w pivot.exponent p) → place w pivot.exponent p ≤ place w o.exponent j → place w pivot.exponent p < place w o.exponent j
                strictly (inl less) l = less
                strictly (inr most) l = absurd (apart (sym (place_same w some pivot.exponent p o.exponent j (omega (arith, most, l))).1))

        raised : (c : Curve F) → result ≡ Some c → IsKept R w e n s more a b p c.exponent (coefs_of c) c.list.items
        raised c is =
            let made = product c is in
            let whole = result_shape c is in
            let light : suc pivot.exponent + w * p < e = subst (λ x. x + w * p < e) made.exponent whole.light in
            let front = front_kept R w e n s met a b p pivot.exponent pivot led.orders pivot_kept in
            let old_coefs = drop_long pivot.list.items pivot.orders (term_count 1 s) (term_count w e) led.list led.orders in
            let new_coefs = drop_long c.list.items c.orders (term_count 1 s) (term_count w e) whole.list whole.orders in
            let old_tile = take_long pivot.list.items pivot.orders (term_count 1 s) (term_count w e) led.list led.orders in
            let new_tile = take_long c.list.items c.orders (term_count 1 s) (term_count w e) whole.list whole.orders in
            subst (λ x. IsKept R w e n s more a b p x (coefs_of c) c.list.items) (sym made.exponent)
            (whole_kept R w e n s more a b p (suc pivot.exponent) c whole.orders
            (kept_more R w e n s some met a b more u v p (suc pivot.exponent) (coefs_of c) (tile_of c)
            (kept_raised R w e n s some met a b quotients shifts are shifted p pivot.exponent (coefs_of pivot) (tile_of pivot) (coefs_of c) (tile_of c) front led.ends light
            (old_coefs ∙ sym are.count) (new_coefs ∙ sym are.count) made.coefs (old_tile ∙ sym shifted.count) (new_tile ∙ sym shifted.count) made.tile lower)
            (met_raised R w e n s some met a b quotients shifts are shifted p pivot.exponent (coefs_of pivot) (tile_of pivot) (coefs_of c) (tile_of c) front led.ends light
            (old_coefs ∙ sym are.count) (new_coefs ∙ sym are.count) made.coefs (old_tile ∙ sym shifted.count) (new_tile ∙ sym shifted.count) made.tile u v lower_here)
            added))

        kept : (j : ℕ) (c : Curve F) → slot new j ≡ Some c → IsKept R w e n s more a b j c.exponent (coefs_of c) c.list.items
        kept j c there = elim (eqb_tells j p) [
          | inl is ↦ subst (λ k. IsKept R w e n s more a b k c.exponent (coefs_of c) c.list.items) (sym is.1) (raised c (sym here ∙ ap (slot new) (sym is.1) ∙ there))
          | inr apart ↦ let was = before j c (slot old j) (slot new j) (others j apart.1) there in beside j c was.0 apart.1 was.1 was.2
        ]

        same : (j : ℕ) (o q : Option (Curve F)) → AreCancelled R number inverse pivot o q → spent w e j q ≡ spent w e j o
        same j None None is = refl
        same j None (Some q) is = absurd is
        same j (Some o) None is = absurd is
        same j (Some o) (Some q) is = is.exponent

        was : spent w e p (slot old p) ≡ pivot.exponent
        was = ap (spent w e p) stands

        one : (o : Option (Curve F)) → o ≡ result → spent w e p o ≤ suc (spent w e p (slot old p))
        one None is = let far = dropped (sym is) in omega (arith, far, was)
        one (Some c) is = let made = (product c (sym is)).exponent in omega (arith, made, was)

-- where all kept curves meet a condition already
pub state_zero : {F : Type 0} (R : Ring F) (w e n s : ℕ) (some : 1 ≤ w) (met more : Conditions F) (a b : F) (u v number handled : ℕ) (curves : List (Option (Curve F))) → place 1 u v ≡ number → u + v < s
    → IsState R w e n s met a b handled curves → ((j : ℕ) (c : Curve F) → slot curves j ≡ Some c → at_place R number c ≡ R.nil)
    → ((c d : F) (h k : ℕ) → more c d h k → met c d h k ⊎ ((c ≡ a) × (d ≡ b) × (h ≡ u) × (k ≡ v))) → IsState R w e n s more a b (suc handled) curves
state_zero {F} R w e n s some met more a b u v number handled curves at few state none added = record {
  kept = λ j c is.
      kept_more R w e n s some met a b more u v j c.exponent (coefs_of c) c.list.items (state.kept j c is)
      (sym ((state.kept j c is).tiled u v few) ∙ ap (entry_at c.list.items) at ∙ none j c is) added;
  few = omega (arith, state.few);
}
  where
    entry_at : List F → ℕ → F
    entry_at list k = slice_index_or list k R.nil
