-- The degree of Q(x, f(x)).
use Rattle.std.proofs.Common.{◌≡◌, ℕ, zero, suc, ◌+◌, ◌-◌, ◌*◌, ◌<◌, ◌≤◌, None, Some, refl, ◌∙◌, sym, ap, arith}
use Rattle.std.specs.declared.option.Option.{Option}
use Rattle.std.specs.Option.{unwrap_or}
use Rattle.std.specs.FinMap.{get}
use Rattle.algebra.specs.Ring.{Ring}
use Rattle.algebra.specs.Series.{IsBelow, product, constant}
use Rattle.algebra.specs.Bivariate.{Bivariate, greatest, power_of, raised, substituted, weight_by, x_power, y_power}
use Rattle.algebra.proofs.RingLaws.{ring, times_nil, nil_times}
use Rattle.algebra.proofs.Sums.{sum_zero}
use Rattle.algebra.proofs.Series.{product_below}
use Rattle.algebra.proofs.Substitution.{raised_high}
use Rattle.algebra.proofs.Entries.{terms_sum, greatest_at, within}

module _ {F : Type 0} (R : Ring F) where
  infixl 60 ◌⊕◌
  infixl 70 ◌⊗◌
  open R use {nil, unit, plus as ◌⊕◌, times as ◌⊗◌}

  power_none : (f : ℕ → F) (k : ℕ) → power_of R f 0 k ≡ constant R unit k
  unfolding power_of
  power_none f k = refl

  power_next : (f : ℕ → F) (j k : ℕ) → power_of R f (suc j) k ≡ product R f (power_of R f j) k
  unfolding power_of
  power_next f j k = refl

  constant_below : (c : F) (k : ℕ) → 1 ≤ k → constant R c k ≡ nil
  constant_below c zero l = absurd (omega (arith, l))
  constant_below c (suc k) l = refl

  -- f(x)^j has degree at most w j where f has degree at most w
  pub power_below : (w : ℕ) (f : ℕ → F) → IsBelow R (suc w) f → (j : ℕ) → IsBelow R (suc (w * j)) (power_of R f j)
  power_below w f below zero = λ k l. power_none f k ∙ constant_below unit k (omega (arith, l))
  power_below w f below (suc j) = λ k l. power_next f j k ∙ product_below R (suc w) (w * j) f (power_of R f j) below (power_below w f below j) k (omega (arith, l))

  -- the term x^i f(x)^j has no coefficient from where it weighs
  raised_below : (w : ℕ) (f : ℕ → F) → IsBelow R (suc w) f → (i j k : ℕ) → i + w * j < k → raised R i (power_of R f j) k ≡ nil
  raised_below w f below i j k l = raised_high R i (power_of R f j) k (omega (arith, l)) ∙ power_below w f below j (k - i) (omega (arith, l))

  pub substituted_below : (w e : ℕ) (q : Bivariate F) (f : ℕ → F) → greatest (weight_by w) q < e → IsBelow R (suc w) f → IsBelow R e (substituted R q f)
  substituted_below w e q f light below = λ k l.
      terms_sum R (λ i j c. c ⊗ raised R i (power_of R f j) k) (λ i j x y. simp ring) (greatest x_power q + 1) (greatest y_power q + 1) q (within q)
      ∙ sum_zero R (greatest x_power q + 1) _ (λ i _. sum_zero R (greatest y_power q + 1) _ (λ j _. each k l i j (get q (i, j)) refl))
    where
      each : (k : ℕ) → e ≤ k → (i j : ℕ) (o : Option F) → get q (i, j) ≡ o → unwrap_or o nil ⊗ raised R i (power_of R f j) k ≡ nil
      each k l i j None is = nil_times R (raised R i (power_of R f j) k)
      each k l i j (Some c) is =
          let weighs : i + w * j ≤ greatest (weight_by w) q = greatest_at (weight_by w) q i j (λ none. differ (sym is ∙ none)) in
          ap (λ t. c ⊗ t) (raised_below w f below i j k (omega (arith, weighs, light, l))) ∙ times_nil R c
        where
          differ : Some c ≡ None → ⊥
          differ e = cc
