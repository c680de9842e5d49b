-- A product stands at the sum of the two logarithms, and an inverse at the rest of the logarithm to a whole round.
use Rattle.std.proofs.Common.{◌≡◌, ◌≢◌, inl, inr, ℕ, ◌+◌, ◌*◌, ◌-◌, ◌^◌, ◌<◌, ◌≤◌, List, length, get_or, subst, sym, ◌∙◌, ap, ap₂, arith}
use Rattle.std.proofs.lemmas.Bool.Decides.{eqb_tells}
use Rattle.gf_terms.specs.Arithmetic.{product, power}
use Rattle.gf_terms.proofs.Linear.{product_zero, zero_product}
use Rattle.gf_terms.proofs.Field.{closed, power_plus, power_round, power_below, two_below}
use Rattle.gf2m.specs.Tables.{ArePowers, AreLogarithms}

module _ (m : ℕ) (low : 4 ≤ m) (high : m ≤ 8) (powers logs : List ℕ) (p : ArePowers m powers) (l : AreLogarithms m logs) where
  nonzero_product : (x y : ℕ) → 0 < x → 0 < y → x < 2 ^ m → y < 2 ^ m → get_or powers (get_or logs x 0 + get_or logs y 0) 0 ≡ product m x y
  nonzero_product x y px py xs ys =
      let a : get_or logs x 0 < 2 ^ m - 1 = l.below x px xs in
      let b : get_or logs y 0 < 2 ^ m - 1 = l.below y py ys in
      p.each (get_or logs x 0 + get_or logs y 0) (omega arith)
      ∙ power_plus m low high 2 (get_or logs x 0) (get_or logs y 0) (two_below m low high)
      ∙ ap₂ (product m) (l.each x px xs) (l.each y py ys)

  pub product_by_tables : (x y : ℕ) → x < 2 ^ m → y < 2 ^ m → get_or powers (get_or logs x 0 + get_or logs y 0) 0 ≡ product m x y
  product_by_tables x y xs ys =
      let zero : get_or logs 0 0 ≡ 2 * (2 ^ m - 1) = l.zero in
      elim (eqb_tells x 0) [
        | inl e ↦
            let s : get_or logs x 0 ≡ 2 * (2 ^ m - 1) = ap (λ t. get_or logs t 0) e.1 ∙ zero in
            p.zeros (get_or logs x 0 + get_or logs y 0) (omega arith) ∙ sym (ap (λ t. product m t y) e.1 ∙ zero_product m y)
        | inr n ↦ elim (eqb_tells y 0) [
          | inl e ↦
              let s : get_or logs y 0 ≡ 2 * (2 ^ m - 1) = ap (λ t. get_or logs t 0) e.1 ∙ zero in
              p.zeros (get_or logs x 0 + get_or logs y 0) (omega arith) ∙ sym (ap (product m x) e.1 ∙ product_zero m x)
          | inr k ↦
              let nx : x ≢ 0 = n.1 in
              let ny : y ≢ 0 = k.1 in
              nonzero_product x y (omega arith) (omega arith) xs ys
        ]
      ]

  pub product_below : (x y : ℕ) → x < 2 ^ m → y < 2 ^ m → get_or powers (get_or logs x 0 + get_or logs y 0) 0 < 2 ^ m
  product_below x y xs ys = subst (λ t. t < 2 ^ m) (sym (product_by_tables x y xs ys)) (closed m low high x y xs ys)

  pub inverse_by_tables : (x : ℕ) → 0 < x → x < 2 ^ m → product m x (get_or powers (length logs - 1 - get_or logs x 0) 0) ≡ 1
  inverse_by_tables x px xs =
      let a : get_or logs x 0 < 2 ^ m - 1 = l.below x px xs in
      let whole : length logs ≡ 2 ^ m = l.whole in
      let e : length logs - 1 - get_or logs x 0 ≡ 2 ^ m - 1 - get_or logs x 0 = omega arith in
      let f : get_or logs x 0 + (2 ^ m - 1 - get_or logs x 0) ≡ 2 ^ m - 1 = omega arith in
      ap₂ (product m) (sym (l.each x px xs)) (ap (λ t. get_or powers t 0) e ∙ p.each (2 ^ m - 1 - get_or logs x 0) (omega arith))
      ∙ sym (power_plus m low high 2 (get_or logs x 0) (2 ^ m - 1 - get_or logs x 0) (two_below m low high))
      ∙ ap (power m 2) f
      ∙ power_round m low high

  pub inverse_below : (x : ℕ) → 0 < x → x < 2 ^ m → get_or powers (length logs - 1 - get_or logs x 0) 0 < 2 ^ m
  inverse_below x px xs =
      let a : get_or logs x 0 < 2 ^ m - 1 = l.below x px xs in
      let whole : length logs ≡ 2 ^ m = l.whole in
      let i : length logs - 1 - get_or logs x 0 < 2 * (2 ^ m - 1) = omega arith in
      subst (λ t. t < 2 ^ m) (sym (p.each (length logs - 1 - get_or logs x 0) i)) (power_below m low high 2 (length logs - 1 - get_or logs x 0) (two_below m low high))
