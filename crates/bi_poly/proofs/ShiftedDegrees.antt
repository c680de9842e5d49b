-- The coefficients and degrees of what stands for Q(x, x y + g).
use Rattle.std.proofs.Common.{◌≡◌, ◌≢◌, inl, inr, ℕ, ◌+◌, ◌*◌, ◌<◌, ◌≤◌, ◌==◌, if◌then◌else◌, Bool, true, false, None, Some, refl, sym, ◌∙◌, ap, arith}
use Rattle.std.specs.declared.option.Option.{Option}
use Rattle.std.specs.Option.{unwrap_or}
use Rattle.std.specs.FinMap.{get}
use Rattle.std.proofs.lemmas.Bool.{cases_lt, cases_eq, eq-eqb, ne_eqb}
use Rattle.std.proofs.Math.Nat.{mul-le-mul_left}
use Rattle.algebra.specs.Ring.{Ring}
use Rattle.algebra.specs.Sums.{sum_below}
use Rattle.algebra.specs.Bivariate.{Bivariate, coefficient, greatest, weight, weight_by, x_power, y_power, shift_of}
use Rattle.algebra.proofs.RingLaws.{ring, times_nil, nil_times}
use Rattle.algebra.proofs.Sums.{sum_zero}
use Rattle.algebra.proofs.Entries.{terms_sum, greatest_at, greatest_least, within}
use Rattle.algebra.proofs.Horner.{weight_low}
use Rattle.bi_poly.specs.Results.{kept, IsMapOf}
use Rattle.bi_poly.proofs.Cells.{kept_nil, unwrap_kept}

module _ {F : Type 0} (R : Ring F) where
  infixl 60 ◌⊕◌
  infixl 70 ◌⊗◌
  open R use {nil, plus as ◌⊕◌, times as ◌⊗◌}

  no_coefficient : (q : Bivariate F) (i j : ℕ) → (get q (i, j) ≢ None → ⊥) → coefficient R q i j ≡ nil
  no_coefficient q i j h = elim (get q (i, j)) as (λ (o : Option F). (o ≢ None → ⊥) → unwrap_or o nil ≡ nil) [
    | None ↦ λ _. refl
    | Some x ↦ λ n. absurd (n (λ e. some_none x e))
  ] h
    where
      some_none : (x : F) → Some x ≡ None → ⊥
      some_none x e = cc

  tested_sum : (b : Bool) (x y w : F) → (if b then (x ⊕ y) ⊗ w else nil) ≡ (if b then x ⊗ w else nil) ⊕ (if b then y ⊗ w else nil)
  tested_sum true x y w = simp ring
  tested_sum false x y w = sym (R.plus_nil nil)

  -- where a term x^i y^j weighs at least what x^(i + h) y^h does for h up to j, nothing in the shift weighs more than the heaviest term
  shift_light : (weigh lesser : ℕ → ℕ → ℕ) → ((i j h : ℕ) → h ≤ j → lesser (i + h) h ≤ weigh i j)
      → (q : Bivariate F) (g : F) (k h : ℕ) → greatest weigh q < lesser k h → shift_of R q g k h ≡ nil
  shift_light weigh lesser less q g k h heavy =
      terms_sum R (λ i j c. if i + h == k then c ⊗ weight R g j h else nil) (λ i j x y. tested_sum (i + h == k) x y (weight R g j h))
      (greatest x_power q + 1) (greatest y_power q + 1) q (within q)
      ∙ sum_zero R (greatest x_power q + 1) (λ i. sum_below R (greatest y_power q + 1) (λ j. if i + h == k then coefficient R q i j ⊗ weight R g j h else nil))
      (λ i _. sum_zero R (greatest y_power q + 1) (λ j. if i + h == k then coefficient R q i j ⊗ weight R g j h else nil) (λ j _. each i j))
    where
      here : (i j : ℕ) → i + h ≡ k → coefficient R q i j ⊗ weight R g j h ≡ nil
      here i j e = elim (cases_lt j h) [
        | inl l ↦ ap (λ t. coefficient R q i j ⊗ t) (weight_low R g j h l) ∙ times_nil R (coefficient R q i j)
        | inr l ↦
            ap (λ t. t ⊗ weight R g j h) (no_coefficient q i j (λ n.
            let most : weigh i j ≤ greatest weigh q = greatest_at weigh q i j n in
            let least : lesser (i + h) h ≤ weigh i j = less i j h l in
            let same : lesser (i + h) h ≡ lesser k h = ap (λ t. lesser t h) e in
            absurd (omega arith)))
            ∙ nil_times R (weight R g j h)
      ]

      each : (i j : ℕ) → (if i + h == k then coefficient R q i j ⊗ weight R g j h else nil) ≡ nil
      each i j = elim (cases_eq (i + h) k) [
        | inl e ↦ ap (λ (b : Bool). if b then coefficient R q i j ⊗ weight R g j h else nil) (eq-eqb (i + h) k e) ∙ here i j e
        | inr n ↦ ap (λ (b : Bool). if b then coefficient R q i j ⊗ weight R g j h else nil) (ne_eqb (i + h) k n)
      ]

  module _ (number : F → ℕ) (nil_is : number R.nil ≡ 0) (same : (x y : F) → number x ≡ number y → x ≡ y) where
    pub coefficient_of_map : (p : ℕ → ℕ → F) (q : Bivariate F) → IsMapOf number p q → (i j : ℕ) → coefficient R q i j ≡ p i j
    coefficient_of_map p q is i j = ap (λ (o : Option F). unwrap_or o nil) (is i j) ∙ unwrap_kept R number nil_is same (p i j)

    module _ (q shifted : Bivariate F) (g : F) (is : IsMapOf number (shift_of R q g) shifted) where
      weighs_less : (weigh lesser : ℕ → ℕ → ℕ) → ((i j h : ℕ) → h ≤ j → lesser (i + h) h ≤ weigh i j) → greatest lesser shifted ≤ greatest weigh q
      weighs_less weigh lesser less = greatest_least lesser shifted (greatest weigh q) (λ k h n. elim (cases_lt (greatest weigh q) (lesser k h)) [
        | inl l ↦ absurd (n (is k h ∙ ap (kept number) (shift_light weigh lesser less q g k h l) ∙ kept_nil R number nil_is same))
        | inr l ↦ l
      ])

      pub shifted_x : greatest x_power shifted ≤ greatest x_power q + greatest y_power q
      shifted_x =
          let both : greatest (λ i j. i + j) q ≤ greatest x_power q + greatest y_power q = greatest_least (λ i j. i + j) q (greatest x_power q + greatest y_power q) (λ i j n.
          let x : i ≤ greatest x_power q = greatest_at x_power q i j n in
          let y : j ≤ greatest y_power q = greatest_at y_power q i j n in
          omega arith) in
          let less : greatest x_power shifted ≤ greatest (λ i j. i + j) q = weighs_less (λ i j. i + j) x_power (λ i j h l. omega arith) in
          omega arith

      pub shifted_y : greatest y_power shifted ≤ greatest y_power q
      shifted_y = weighs_less y_power y_power (λ i j h l. l)

      pub shifted_weight : (w : ℕ) → greatest (weight_by w) shifted ≤ greatest (weight_by (w + 1)) q
      shifted_weight w = weighs_less (weight_by (w + 1)) (weight_by w) (λ i j h l.
          let more : (w + 1) * h ≤ (w + 1) * j = mul-le-mul_left (w + 1) l in
          omega arith)
