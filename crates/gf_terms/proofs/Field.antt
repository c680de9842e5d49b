-- The numbers below 2^m are a field under exclusive or and product, for m = 4 to 8, and the powers of 2 are all of them but 0.
use Rattle.std.proofs.Common.{◌≡◌, ◌≢◌, ◌⊎◌, inl, inr, ℕ, zero, suc, ◌+◌, ◌-◌, ◌^◌, ◌<◌, ◌≤◌, ◌==◌, ◌||◌, Bool, true, false, List, [], ◌∷◌, refl, sym, ◌∙◌, ap, ap₂, subst, arith}
use Rattle.std.specs.Prelude.{bit_xor, nat_lt}
use Rattle.std.proofs.lemmas.Bool.{eqb-true, ltb-true}
use Rattle.std.proofs.lemmas.Nat.{pow_pos, pow_below}
use lib.Bits.{xor_lt}
use Rattle.gf_terms.specs.Arithmetic.{carryless, reduced, reduction, product, power}
use Rattle.gf_terms.proofs.Linear.{product_plus, plus_product, product_zero, zero_product}
use Rattle.gf_terms.proofs.Basis.{by_basis, each_below, at_below, five}

-- ---- the tests, on the powers of two below 2^m

-- n numbers, each twice the one before
unfoldable pub doublings : (m n x : ℕ) → List ℕ
doublings m zero x = []
doublings m (suc n) x = x ∷ doublings m n (product m 2 x)

unfoldable pub is_among : List ℕ → ℕ → Bool
is_among [] x = false
is_among (y ∷ ys) x = (y == x) || is_among ys x

unfoldable pub all_among : List ℕ → ℕ → Bool
all_among ys n = each_below n (λ x. is_among ys (suc x))

pub record Tested (m : ℕ) : Type 0 where
  pub comm : each_below m (λ i. each_below m (λ j. product m (2 ^ i) (2 ^ j) == product m (2 ^ j) (2 ^ i))) ≡ true
  pub assoc : each_below m (λ i. each_below m (λ j. each_below m (λ k. product m (product m (2 ^ i) (2 ^ j)) (2 ^ k) == product m (2 ^ i) (product m (2 ^ j) (2 ^ k))))) ≡ true
  pub closed : each_below m (λ i. each_below m (λ j. nat_lt (product m (2 ^ i) (2 ^ j)) (2 ^ m))) ≡ true
  pub unit : each_below m (λ i. product m 1 (2 ^ i) == 2 ^ i) ≡ true
  pub powers : all_among (doublings m (2 ^ m - 1) 1) (2 ^ m - 1) ≡ true
  pub period : (power m 2 (2 ^ m - 1) == 1) ≡ true

tested_4 : Tested 4
unfolding product reduced carryless reduction power each_below doublings is_among all_among
tested_4 = record { comm = refl; assoc = refl; closed = refl; unit = refl; powers = refl; period = refl }

tested_5 : Tested 5
unfolding product reduced carryless reduction power each_below doublings is_among all_among
tested_5 = record { comm = refl; assoc = refl; closed = refl; unit = refl; powers = refl; period = refl }

tested_6 : Tested 6
unfolding product reduced carryless reduction power each_below doublings is_among all_among
tested_6 = record { comm = refl; assoc = refl; closed = refl; unit = refl; powers = refl; period = refl }

tested_7 : Tested 7
unfolding product reduced carryless reduction power each_below doublings is_among all_among
tested_7 = record { comm = refl; assoc = refl; closed = refl; unit = refl; powers = refl; period = refl }

tested_8 : Tested 8
unfolding product reduced carryless reduction power each_below doublings is_among all_among
tested_8 = record { comm = refl; assoc = refl; closed = refl; unit = refl; powers = refl; period = refl }

pub tested : (m : ℕ) → 4 ≤ m → m ≤ 8 → Tested m
tested = five Tested tested_4 tested_5 tested_6 tested_7 tested_8

at_one : (n : ℕ) (f g : ℕ → ℕ) → each_below n (λ i. f i == g i) ≡ true → (i : ℕ) → i < n → f i ≡ g i
at_one n f g h i a = eqb-true (f i) (g i) (at_below n (λ i. f i == g i) h i a)

at_two : (n : ℕ) (f g : ℕ → ℕ → ℕ) → each_below n (λ i. each_below n (λ j. f i j == g i j)) ≡ true → (i j : ℕ) → i < n → j < n → f i j ≡ g i j
at_two n f g h i j a b = at_one n (f i) (g i) (at_below n (λ i. each_below n (λ j. f i j == g i j)) h i a) j b

at_three : (n : ℕ) (f g : ℕ → ℕ → ℕ → ℕ) → each_below n (λ i. each_below n (λ j. each_below n (λ k. f i j k == g i j k))) ≡ true
    → (i j k : ℕ) → i < n → j < n → k < n → f i j k ≡ g i j k
at_three n f g h i j k a b c = at_two n (f i) (g i) (at_below n (λ i. each_below n (λ j. each_below n (λ k. f i j k == g i j k))) h i a) j k b c

pub one_is_not_zero : ◌≢◌ {A = ℕ} 1 0
one_is_not_zero h = cc

-- ---- what follows for all numbers below 2^m

module _ (m : ℕ) (low : 4 ≤ m) (high : m ≤ 8) where
  pub closed : (x y : ℕ) → x < 2 ^ m → y < 2 ^ m → product m x y < 2 ^ m
  closed x y xs ys =
      by_basis (λ x. product m x y < 2 ^ m) (subst (λ t. t < 2 ^ m) (sym (zero_product m y)) (pow_pos m))
      (λ a b p q. subst (λ t. t < 2 ^ m) (sym (plus_product m a b y)) (xor_lt m (product m a y) (product m b y) p q))
      m (λ i a. second i a) x xs
    where
      second : (i : ℕ) → i < m → product m (2 ^ i) y < 2 ^ m
      second i a =
          by_basis (λ y. product m (2 ^ i) y < 2 ^ m) (subst (λ t. t < 2 ^ m) (sym (product_zero m (2 ^ i))) (pow_pos m))
          (λ b c p q. subst (λ t. t < 2 ^ m) (sym (product_plus m (2 ^ i) b c)) (xor_lt m (product m (2 ^ i) b) (product m (2 ^ i) c) p q))
          m (λ j b. ltb-true (product m (2 ^ i) (2 ^ j)) (2 ^ m) (at_below m (λ j. nat_lt (product m (2 ^ i) (2 ^ j)) (2 ^ m)) (at_below m (λ i. each_below m (λ j. nat_lt (product m (2 ^ i) (2 ^ j)) (2 ^ m))) (tested m low high).closed i a) j b)) y ys

  pub product_comm : (x y : ℕ) → x < 2 ^ m → y < 2 ^ m → product m x y ≡ product m y x
  product_comm x y xs ys =
      by_basis (λ x. product m x y ≡ product m y x) (zero_product m y ∙ sym (product_zero m y))
      (λ a b p q. plus_product m a b y ∙ ap₂ bit_xor p q ∙ sym (product_plus m y a b))
      m (λ i a. second i a) x xs
    where
      second : (i : ℕ) → i < m → product m (2 ^ i) y ≡ product m y (2 ^ i)
      second i a =
          by_basis (λ y. product m (2 ^ i) y ≡ product m y (2 ^ i)) (product_zero m (2 ^ i) ∙ sym (zero_product m (2 ^ i)))
          (λ b c p q. product_plus m (2 ^ i) b c ∙ ap₂ bit_xor p q ∙ sym (plus_product m b c (2 ^ i)))
          m (λ j b. at_two m (λ i j. product m (2 ^ i) (2 ^ j)) (λ i j. product m (2 ^ j) (2 ^ i)) (tested m low high).comm i j a b) y ys

  pub product_assoc : (x y z : ℕ) → x < 2 ^ m → y < 2 ^ m → z < 2 ^ m → product m (product m x y) z ≡ product m x (product m y z)
  product_assoc x y z xs ys zs =
      by_basis (λ x. product m (product m x y) z ≡ product m x (product m y z))
      (ap (λ t. product m t z) (zero_product m y) ∙ zero_product m z ∙ sym (zero_product m (product m y z)))
      (λ a b p q.
      ap (λ t. product m t z) (plus_product m a b y) ∙ plus_product m (product m a y) (product m b y) z
      ∙ ap₂ bit_xor p q
      ∙ sym (plus_product m a b (product m y z)))
      m (λ i a. second i a) x xs
    where
      third : (i j : ℕ) → i < m → j < m → product m (product m (2 ^ i) (2 ^ j)) z ≡ product m (2 ^ i) (product m (2 ^ j) z)
      third i j a b =
          by_basis (λ z. product m (product m (2 ^ i) (2 ^ j)) z ≡ product m (2 ^ i) (product m (2 ^ j) z))
          (product_zero m (product m (2 ^ i) (2 ^ j)) ∙ sym (ap (product m (2 ^ i)) (product_zero m (2 ^ j)) ∙ product_zero m (2 ^ i)))
          (λ c d p q.
          product_plus m (product m (2 ^ i) (2 ^ j)) c d
          ∙ ap₂ bit_xor p q
          ∙ sym (ap (product m (2 ^ i)) (product_plus m (2 ^ j) c d) ∙ product_plus m (2 ^ i) (product m (2 ^ j) c) (product m (2 ^ j) d)))
          m (λ k c. at_three m (λ i j k. product m (product m (2 ^ i) (2 ^ j)) (2 ^ k)) (λ i j k. product m (2 ^ i) (product m (2 ^ j) (2 ^ k))) (tested m low high).assoc i j k a b c) z zs

      second : (i : ℕ) → i < m → product m (product m (2 ^ i) y) z ≡ product m (2 ^ i) (product m y z)
      second i a =
          by_basis (λ y. product m (product m (2 ^ i) y) z ≡ product m (2 ^ i) (product m y z))
          (ap (λ t. product m t z) (product_zero m (2 ^ i)) ∙ zero_product m z ∙ sym (ap (product m (2 ^ i)) (zero_product m z) ∙ product_zero m (2 ^ i)))
          (λ c d p q.
          ap (λ t. product m t z) (product_plus m (2 ^ i) c d) ∙ plus_product m (product m (2 ^ i) c) (product m (2 ^ i) d) z
          ∙ ap₂ bit_xor p q
          ∙ sym (ap (product m (2 ^ i)) (plus_product m c d z) ∙ product_plus m (2 ^ i) (product m c z) (product m d z)))
          m (λ j b. third i j a b) y ys

  pub one_product : (x : ℕ) → x < 2 ^ m → product m 1 x ≡ x
  one_product =
      by_basis (λ x. product m 1 x ≡ x) (product_zero m 1)
      (λ a b p q. product_plus m 1 a b ∙ ap₂ bit_xor p q)
      m (λ i a. at_one m (λ i. product m 1 (2 ^ i)) (λ i. 2 ^ i) (tested m low high).unit i a)

  -- ---- the powers of 2

  pub zero_below : 0 < 2 ^ m
  zero_below = pow_pos m

  pub one_below : 1 < 2 ^ m
  one_below = omega (arith, pow_below 0 m (omega arith))

  pub two_below : 2 < 2 ^ m
  two_below = omega (arith, pow_below 1 m (omega arith))

  pub power_below : (x i : ℕ) → x < 2 ^ m → power m x i < 2 ^ m
  unfolding power
  power_below x zero h = one_below
  power_below x (suc i) h = closed x (power m x i) h (power_below x i h)

  -- the sum of two exponents
  pub power_plus : (x i j : ℕ) → x < 2 ^ m → power m x (i + j) ≡ product m (power m x i) (power m x j)
  unfolding power
  power_plus x zero j h = ap (power m x) (let e : 0 + j ≡ j = omega arith in e) ∙ sym (one_product (power m x j) (power_below x j h))
  power_plus x (suc i) j h =
      ap (power m x) (let e : suc i + j ≡ suc (i + j) = omega arith in e)
      ∙ ap (product m x) (power_plus x i j h)
      ∙ sym (product_assoc x (power m x i) (power m x j) h (power_below x i h) (power_below x j h))

  -- the powers of 2 go round in 2^m - 1 steps
  pub power_round : power m 2 (2 ^ m - 1) ≡ 1
  power_round = eqb-true (power m 2 (2 ^ m - 1)) 1 (tested m low high).period

  either : (a b : Bool) → (a || b) ≡ true → (a ≡ true) ⊎ (b ≡ true)
  either true b h = inl refl
  either false b h = inr h

  among_power : (n i x : ℕ) → is_among (doublings m n (power m 2 i)) x ≡ true → (j : ℕ) × (j < i + n) × (power m 2 j ≡ x)
  unfolding is_among doublings power
  among_power zero i x h = cc
  among_power (suc n) i x h =
      elim (either (power m 2 i == x) (is_among (doublings m n (product m 2 (power m 2 i))) x) h) [
        | inl e ↦ (i, omega arith, eqb-true (power m 2 i) x e)
        | inr e ↦ let r : (j : ℕ) × (j < suc i + n) × (power m 2 j ≡ x) = among_power n (suc i) x e in (r.0, let b : r.0 < suc i + n = r.1 in omega arith, r.2)
      ]

  -- each number but 0 is a power of 2
  pub is_power : (x : ℕ) → x < 2 ^ m → 0 < x → (j : ℕ) × (j < 2 ^ m - 1) × (power m 2 j ≡ x)
  unfolding all_among power
  is_power zero h p = absurd (omega arith)
  is_power (suc x) h p =
      let r : (j : ℕ) × (j < 0 + (2 ^ m - 1)) × (power m 2 j ≡ suc x)
      = among_power (2 ^ m - 1) 0 (suc x) (at_below (2 ^ m - 1) (λ x. is_among (doublings m (2 ^ m - 1) 1) (suc x)) (tested m low high).powers x (omega arith)) in
      (r.0, let b : r.0 < 0 + (2 ^ m - 1) = r.1 in omega arith, r.2)

  -- ---- inverses

  pub record Inverse (x : ℕ) : Type 0 where
    pub number : ℕ
    pub below : number < 2 ^ m
    pub times : product m number x ≡ 1

  pub inverse : (x : ℕ) → x < 2 ^ m → 0 < x → Inverse x
  inverse x h p =
      let r : (j : ℕ) × (j < 2 ^ m - 1) × (power m 2 j ≡ x) = is_power x h p in
      let b : r.0 < 2 ^ m - 1 = r.1 in
      let e : (2 ^ m - 1 - r.0) + r.0 ≡ 2 ^ m - 1 = omega arith in
      record {
        number = power m 2 (2 ^ m - 1 - r.0);
        below = power_below 2 (2 ^ m - 1 - r.0) two_below;
        times = ap (product m (power m 2 (2 ^ m - 1 - r.0))) (sym r.2) ∙ sym (power_plus 2 (2 ^ m - 1 - r.0) r.0 two_below) ∙ ap (power m 2) e ∙ power_round;
      }

  -- a product is 0 only where a factor is
  pub no_zero_divisors : (x y : ℕ) → x < 2 ^ m → y < 2 ^ m → 0 < x → product m x y ≡ 0 → y ≡ 0
  no_zero_divisors x y xs ys p e =
      let i = inverse x xs p in
      sym (one_product y ys)
      ∙ ap (λ t. product m t y) (sym i.times)
      ∙ product_assoc i.number x y i.below xs ys
      ∙ ap (product m i.number) e
      ∙ product_zero m i.number
