-- A pivot that is taken out, and what is put back.
use Rattle.std.proofs.Common.{◌≡◌, ◌≢◌, inl, inr, ℕ, ◌+◌, ◌*◌, ◌<◌, ◌≤◌, List, length, Option, None, Some, set, get_or, ◌∙◌, sym, ap, subst, arith}
use Rattle.std.proofs.lemmas.List.{get_or_default, get_or-set_other, get_or-set_same, length-set}
use Rattle.std.proofs.lemmas.Bool.Decides.{eqb_tells}
use Rattle.std.proofs.Math.Nat.{mul-le-mul_left}
use Rattle.algebra.specs.Ring.{Ring}
use Rattle.decoding_terms.specs.Parameters.{term_count}
use Rattle.term_lists.proofs.Ordered.{place_below}
use Rattle.gs_koetter.specs.declared.curve.Curve.{Curve}
use Rattle.gs_koetter.specs.Shapes.{AreCancelled, HasRoom, HaveShape, IsEnded, slot}
use Rattle.gs_koetter.specs.States.{step_products}
use Rattle.gs_koetter.proofs.Parts.{past_end}
use Rattle.gs_koetter.proofs.Pivots.{inside_some, not_some}

pub stands_is : {X : Type 0} (old : List (Option X)) (p : ℕ) (first pivot : X) (d taken : Option X) → get_or old p None ≡ Some first → taken ≡ get_or old p d → taken ≡ Some pivot → get_or old p None ≡ Some pivot
stands_is old p first pivot d taken is from some = get_or_default old p None d (inside_some old p first is) ∙ sym from ∙ some

module _ {F : Type 0} (R : Ring F) (w e s p : ℕ) (old cancelled : List (Option (Curve F))) (pivot : Curve F) (stands : slot old p ≡ Some pivot) (shape : HaveShape R w e s old) where
  pub inside : p < length old
  inside = inside_some old p pivot stands

  module _ (taken result : Option (Curve F)) where
    pub here : length cancelled ≡ length (set old p taken) → slot (set cancelled p result) p ≡ result
    here same = get_or-set_same cancelled p result None (omega (arith, inside, same, length-set old p taken))

    pub others : (number : ℕ) (inverse : F) → ((j : ℕ) → AreCancelled R number inverse pivot (slot (set old p taken) j) (slot cancelled j))
        → (j : ℕ) → j ≢ p → AreCancelled R number inverse pivot (slot old j) (slot (set cancelled p result) j)
    others number inverse are j apart =
        subst (λ o. AreCancelled R number inverse pivot o (slot (set cancelled p result) j)) (get_or-set_other old p j taken None apart)
        (subst (λ o. AreCancelled R number inverse pivot (slot (set old p taken) j) o) (sym (get_or-set_other cancelled p j result None apart)) (are j))

    pub room : taken ≡ None → (j : ℕ) (c : Curve F) → slot (set old p taken) j ≡ Some c → HasRoom R pivot c
    room gone j c is = elim (eqb_tells j p) [
      | inl same ↦ absurd (not_some c (slot (set old p taken) j) (ap (slot (set old p taken)) same.1 ∙ get_or-set_same old p taken None inside ∙ gone) is)
      | inr apart ↦
          let whole = shape j c (sym (get_or-set_other old p j taken None apart.1) ∙ is) in
          let led = shape p pivot stands in
          record { list = led.list ∙ sym whole.list }
    ]

  short : 1 ≤ w → pivot.len ≤ term_count w e
  short some =
      let led = shape p pivot stands in
      let below = place_below w e pivot.exponent p some led.light in
      omega (arith, below, led.len)

  pub ended : 1 ≤ w → IsEnded R pivot
  ended some =
      let led = shape p pivot stands in
      record { inside = omega (arith, short some, led.list, led.orders); rest = past_end R pivot (λ k l. led.ends k (omega (arith, led.len, l))) }

  -- the products of the inverse, the other curves and the pivot
  pub counted : (some : 1 ≤ w) (count m a b c d : ℕ) → m ≡ count → b ≤ a + 1 → c ≤ b + m * (1 + pivot.orders + pivot.len) → d ≤ c + term_count w e → d ≤ a + step_products w e s count
  counted some count m a b c d same one all last =
      let led = shape p pivot stands in
      let each : count * (1 + pivot.orders + pivot.len) ≤ count * (1 + term_count w e + term_count 1 s) = mul-le-mul_left count (omega (arith, short some, led.orders)) in
      let was : m * (1 + pivot.orders + pivot.len) ≡ count * (1 + pivot.orders + pivot.len) = ap (λ n. n * (1 + pivot.orders + pivot.len)) same in
      omega (arith, one, all, last, each, was)
