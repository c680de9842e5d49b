-- The derivatives and the coefficients in a curve's list.
use Rattle.std.proofs.Common.{◌≡◌, ℕ, ◌+◌, ◌-◌, ◌<◌, ◌≤◌, List, length, take, drop, ◌∙◌, sym, ap, ap₂, arith}
use Rattle.std.proofs.lemmas.List.{get_or-drop, get_or-take, length-drop, length-take}
use Rattle.algebra.specs.Lists.{coefficients}
use Rattle.algebra.specs.Ring.{Ring}
use Rattle.decoding_terms.specs.Parameters.{term_count}
use Rattle.koetter_terms.specs.Curves.{IsSum}
use Rattle.koetter_terms.specs.State.{Conditions, IsKept}
use Rattle.term_lists.specs.Places.{place}
use Rattle.term_lists.proofs.Ordered.{place_below}
use Rattle.gs_koetter.specs.declared.curve.Curve.{Curve}
use Rattle.gs_koetter.specs.Shapes.{coefs_of, tile_of}

pub drop_long : {X : Type 0} (xs : List X) (n t m : ℕ) → length xs ≡ t + m → n ≡ t → length (drop n xs) ≡ m
drop_long xs n t m long is = omega (arith, length-drop n xs, long, is)

pub take_long : {X : Type 0} (xs : List X) (n t m : ℕ) → length xs ≡ t + m → n ≡ t → length (take n xs) ≡ t
take_long xs n t m long is = omega (arith, length-take n xs, long, is)

module _ {F : Type 0} (R : Ring F) where
  open R use {nil, plus, times}

  pub coefficient_at : (c : Curve F) (n k : ℕ) → c.orders ≡ n → coefficients R (coefs_of c) k ≡ coefficients R c.list.items (n + k)
  coefficient_at c n k is = get_or-drop c.orders c.list.items k nil ∙ ap (λ m. coefficients R c.list.items (m + k)) is

  pub coefs_sum : (n : ℕ) (factor : F) (pivot old new : Curve F) → pivot.orders ≡ n → old.orders ≡ n → new.orders ≡ n → IsSum R factor pivot.list.items old.list.items new.list.items
      → IsSum R factor (coefs_of pivot) (coefs_of old) (coefs_of new)
  coefs_sum n factor pivot old new first second third sum k =
      coefficient_at new n k third ∙ sum (n + k) ∙ ap₂ (λ x y. plus x (times factor y)) (sym (coefficient_at old n k second)) (sym (coefficient_at pivot n k first))

  pub past_end : (c : Curve F) → ((k : ℕ) → c.len ≤ k → coefficients R (coefs_of c) k ≡ nil) → (k : ℕ) → c.orders + c.len ≤ k → coefficients R c.list.items k ≡ nil
  past_end c rest k l =
      let at : c.orders + (k - c.orders) ≡ k = omega (arith, l) in
      ap (coefficients R c.list.items) (sym at) ∙ sym (get_or-drop c.orders c.list.items (k - c.orders) nil) ∙ rest (k - c.orders) (omega (arith, l))

  pub order_at : (s u v : ℕ) (c : Curve F) → c.orders ≡ term_count 1 s → u + v < s → coefficients R (tile_of c) (place 1 u v) ≡ coefficients R c.list.items (place 1 u v)
  order_at s u v c is few =
      let below = place_below 1 s u v (omega arith) (omega (arith, few)) in
      get_or-take c.orders c.list.items (place 1 u v) nil (omega (arith, below, is))

  module _ (w e n s : ℕ) (met : Conditions F) (a b : F) (j exponent : ℕ) (c : Curve F) (orders : c.orders ≡ term_count 1 s) where
    pub front_kept : IsKept R w e n s met a b j exponent (coefs_of c) c.list.items → IsKept R w e n s met a b j exponent (coefs_of c) (tile_of c)
    front_kept is = record { lead = is.lead; tiled = λ u v few. order_at s u v c orders few ∙ is.tiled u v few; meets = is.meets }

    pub whole_kept : IsKept R w e n s met a b j exponent (coefs_of c) (tile_of c) → IsKept R w e n s met a b j exponent (coefs_of c) c.list.items
    whole_kept is = record { lead = is.lead; tiled = λ u v few. sym (order_at s u v c orders few) ∙ is.tiled u v few; meets = is.meets }
