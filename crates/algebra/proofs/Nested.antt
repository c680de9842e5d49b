-- Values by nested products, in any ring that the coefficients are taken into by a map that keeps sums and products.
use Rattle.std.proofs.Common.{◌≡◌, ℕ, zero, suc, ◌+◌, ◌≤◌, refl, sym, ◌∙◌, ap, ap₂, arith}
use Rattle.algebra.specs.Ring.{Ring}
use Rattle.algebra.specs.Sums.{sum_below, power}
use Rattle.algebra.specs.Series.{product, value, IsBelow}
use Rattle.algebra.proofs.RingLaws.{ring}
use Rattle.algebra.proofs.Sums.{sum_none, sum_next, sum_same, sum_scaled, power_none, power_next}
use Rattle.algebra.proofs.Series.{product_first, product_next, product_zero}

-- the first d coefficients are taken into S, and c is put for the variable
unfoldable pub nested : {F G : Type 0} → Ring G → (F → G) → ℕ → (ℕ → F) → G → G
nested S into zero p c = S.nil
nested S into (suc d) p c = S.plus (into (p 0)) (S.times c (nested S into d (λ k. p (suc k)) c))

-- a map between rings that keeps zero, one, sums and products
pub record IsHom {F G : Type 0} (R : Ring F) (S : Ring G) (into : F → G) : Type 0 where
  pub keeps_nil : into R.nil ≡ S.nil
  pub keeps_unit : into R.unit ≡ S.unit
  pub keeps_plus : (x y : F) → into (R.plus x y) ≡ S.plus (into x) (into y)
  pub keeps_times : (x y : F) → into (R.times x y) ≡ S.times (into x) (into y)

-- what stands behind the first coefficient
pub below_tail : {F : Type 0} (R : Ring F) (d : ℕ) (p : ℕ → F) → IsBelow R (suc d) p → IsBelow R d (λ k. p (suc k))
below_tail R d p b k l = b (suc k) (omega arith)

-- a greater bound
pub below_more : {F : Type 0} (R : Ring F) (d e : ℕ) (p : ℕ → F) → d ≤ e → IsBelow R d p → IsBelow R e p
below_more R d e p l b k m = b k (omega arith)

module _ {F G : Type 0} (R : Ring F) (S : Ring G) (into : F → G) (h : IsHom R S into) where
  infixl 60 ◌⊕◌
  infixl 70 ◌⊗◌
  open S use {nil, unit, plus as ◌⊕◌, times as ◌⊗◌}

  pub nested_none : (p : ℕ → F) (c : G) → nested S into 0 p c ≡ nil
  unfolding nested
  nested_none p c = refl

  pub nested_next : (d : ℕ) (p : ℕ → F) (c : G) → nested S into (suc d) p c ≡ into (p 0) ⊕ c ⊗ nested S into d (λ k. p (suc k)) c
  unfolding nested
  nested_next d p c = refl

  pub nested_sum : (d : ℕ) (p q : ℕ → F) (c : G) → nested S into d (λ k. R.plus (p k) (q k)) c ≡ nested S into d p c ⊕ nested S into d q c
  nested_sum zero p q c = simp (nested_none, ring)
  nested_sum (suc d) p q c = simp (nested_next, h.keeps_plus, nested_sum d (λ k. p (suc k)) (λ k. q (suc k)) c, ring)

  pub nested_scaled : (d : ℕ) (x : F) (p : ℕ → F) (c : G) → nested S into d (λ k. R.times x (p k)) c ≡ into x ⊗ nested S into d p c
  nested_scaled zero x p c = simp (nested_none, ring)
  nested_scaled (suc d) x p c = simp (nested_next, h.keeps_times, nested_scaled d x (λ k. p (suc k)) c, ring)

  pub nested_zero : (d : ℕ) (p : ℕ → F) (c : G) → IsBelow R 0 p → nested S into d p c ≡ nil
  nested_zero zero p c b = nested_none p c
  nested_zero (suc d) p c b =
      let rest : nested S into d (λ k. p (suc k)) c ≡ nil = nested_zero d (λ k. p (suc k)) c (λ k l. b (suc k) (omega arith)) in
      let first : into (p 0) ≡ nil = ap into (b 0 (omega arith)) ∙ h.keeps_nil in
      nested_next d p c ∙ simp (first, rest, ring)

  -- coefficients that are zero count for nothing
  pub nested_more : (d e : ℕ) (p : ℕ → F) (c : G) → IsBelow R d p → d ≤ e → nested S into e p c ≡ nested S into d p c
  nested_more zero e p c b l = nested_zero e p c b ∙ sym (nested_none p c)
  nested_more (suc d) zero p c b l = absurd (omega arith)
  nested_more (suc d) (suc e) p c b l =
      let rest : nested S into e (λ k. p (suc k)) c ≡ nested S into d (λ k. p (suc k)) c = nested_more d e (λ k. p (suc k)) c (below_tail R d p b) (omega arith) in
      nested_next e p c ∙ ap (λ t. into (p 0) ⊕ c ⊗ t) rest ∙ sym (nested_next d p c)

  -- values of products are products of values
  pub nested_product : (d e : ℕ) (p q : ℕ → F) (c : G) → IsBelow R d p → IsBelow R e q
      → nested S into (d + e) (product R p q) c ≡ nested S into d p c ⊗ nested S into e q c
  nested_product zero e p q c bp bq =
      nested_zero (0 + e) (product R p q) c (λ k l. product_zero R p q bp k) ∙ simp (nested_none, ring)
  nested_product (suc d) e p q c bp bq =
      let n : suc d + e ≡ suc (d + e) = omega arith in
      let rest : nested S into (d + e) (product R (λ k. p (suc k)) q) c ≡ nested S into d (λ k. p (suc k)) c ⊗ nested S into e q c =
      nested_product d e (λ k. p (suc k)) q c (below_tail R d p bp) bq in
      let longer : nested S into e q c ≡ into (q 0) ⊕ c ⊗ nested S into (d + e) (λ k. q (suc k)) c =
      sym (nested_more e (suc (d + e)) q c bq (omega arith)) ∙ nested_next (d + e) q c in
      rw n (simp (nested_next, product_first, product_next, nested_sum, nested_scaled, rest, h.keeps_times, longer, ring))

  -- the sum of the coefficients' multiples of the powers
  pub nested_is_sum : (d : ℕ) (p : ℕ → F) (c : G) → nested S into d p c ≡ sum_below S d (λ i. into (p i) ⊗ power S c i)
  nested_is_sum zero p c = nested_none p c ∙ sym (sum_none S (λ i. into (p i) ⊗ power S c i))
  nested_is_sum (suc d) p c =
      let term : (i : ℕ) → c ⊗ (into (p (suc i)) ⊗ power S c i) ≡ into (p (suc i)) ⊗ power S c (suc i) = λ i. simp (power_next S c i, ring) in
      let rest : c ⊗ nested S into d (λ k. p (suc k)) c ≡ sum_below S d (λ i. into (p (suc i)) ⊗ power S c (suc i)) =
      ap (λ t. c ⊗ t) (nested_is_sum d (λ k. p (suc k)) c)
      ∙ sym (sum_scaled S d c (λ i. into (p (suc i)) ⊗ power S c i))
      ∙ sum_same S d (λ i. c ⊗ (into (p (suc i)) ⊗ power S c i)) (λ i. into (p (suc i)) ⊗ power S c (suc i)) (λ i l. term i) in
      nested_next d p c ∙ ap₂ (λ (s t : G). s ⊕ t) (simp (power_none, ring)) rest ∙ sym (sum_next S d (λ i. into (p i) ⊗ power S c i))

-- each ring goes into itself
pub itself : {F : Type 0} (R : Ring F) → IsHom R R (λ x. x)
itself R = record { keeps_nil = refl; keeps_unit = refl; keeps_plus = λ x y. refl; keeps_times = λ x y. refl }

module _ {F : Type 0} (R : Ring F) where
  infixl 60 ◌⊕◌
  infixl 70 ◌⊗◌
  open R use {nil, unit, plus as ◌⊕◌, times as ◌⊗◌}

  -- the sum of the powers' multiples, by nested products
  pub value_nested : (d : ℕ) (p : ℕ → F) (x : F) → value R d p x ≡ nested R (λ t. t) d p x
  value_nested d p x = sym (nested_is_sum R R (λ t. t) (itself R) d p x)

  -- a value by its first coefficient and the value of the rest
  pub value_next : (d : ℕ) (p : ℕ → F) (x : F) → value R (suc d) p x ≡ p 0 ⊕ x ⊗ value R d (λ k. p (suc k)) x
  value_next d p x =
      value_nested (suc d) p x
      ∙ nested_next R R (λ t. t) (itself R) d p x
      ∙ ap (λ t. p 0 ⊕ x ⊗ t) (sym (value_nested d (λ k. p (suc k)) x))

  pub value_more : (d e : ℕ) (p : ℕ → F) (x : F) → IsBelow R d p → d ≤ e → value R e p x ≡ value R d p x
  value_more d e p x b l = value_nested e p x ∙ nested_more R R (λ t. t) (itself R) d e p x b l ∙ sym (value_nested d p x)
