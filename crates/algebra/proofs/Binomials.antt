-- Which binomial coefficients are odd: Pascal's rule for bits.
use Rattle.std.proofs.Common.{◌≡◌, ◌↔◌, inl, inr, ◌⊎◌, ℕ, zero, suc, ◌+◌, ◌*◌, ◌/◌, ◌%◌, ◌<◌, ◌≤◌, Bool, true, false, refl, sym, ◌∙◌, ap, ap₂, arith}
use Rattle.std.specs.Prelude.{cond, not, ◌&&◌, leb, ◌==◌, IsTrue, min, bit_and}
use Rattle.std.proofs.lemmas.Bool.{cases_eq, eq-eqb, ne_eqb}
use Rattle.std.proofs.lemmas.Bool.Decides.{nat_tests}
use Rattle.std.proofs.lemmas.Nat.{and_le_r}
use lib.Bits.{and_step}
use Rattle.algebra.specs.Binomials.{binomial, has_bits}

-- one of the two, and not both
abbrev pub differ : Bool → Bool → Bool
differ true b = not b
differ false b = b

-- a comparison of two numbers by their halves and last bits
last_bits : (x b s t : ℕ) → s < 2 → t < 2 → (x * 2 + min s t == b * 2 + t) ≡ ((x == b) && leb t s)
last_bits x b s t l k = grind (arith, nat_tests)

-- the bits of a number are those of its half, and the last one
bits_at : (i u a b s t : ℕ) → s < 2 → t < 2 → i ≡ a * 2 + s → u ≡ b * 2 + t → has_bits i u ≡ (has_bits a b && leb t s)
bits_at i u a b s t l k p q =
    let i_half : i / 2 ≡ a = omega arith in
    let i_last : i % 2 ≡ s = omega arith in
    let u_half : u / 2 ≡ b = omega arith in
    let u_last : u % 2 ≡ t = omega arith in
    let whole : bit_and i u ≡ bit_and a b * 2 + min s t =
    and_step i u
    ∙ ap₂ (λ (x y : ℕ). x * 2 + y) (ap₂ (λ (x y : ℕ). bit_and x y) i_half u_half) (ap₂ (λ (x y : ℕ). min x y) i_last u_last) in
    ap₂ (λ (x y : ℕ). x == y) whole q ∙ last_bits (bit_and a b) b s t l k

and_true : (x : Bool) → (x && true) ≡ x
and_true true = refl
and_true false = refl

and_false : (x : Bool) → (x && false) ≡ false
and_false true = refl
and_false false = refl

-- without a last bit
no_last : (i u a b : ℕ) → (i ≡ a * 2) ⊎ (i ≡ a * 2 + 1) → u ≡ b * 2 → has_bits i u ≡ has_bits a b
no_last i u a b (inl p) q = bits_at i u a b 0 0 (omega arith) (omega arith) (omega arith) (omega arith) ∙ and_true (has_bits a b)
no_last i u a b (inr p) q = bits_at i u a b 1 0 (omega arith) (omega arith) (omega arith) (omega arith) ∙ and_true (has_bits a b)

-- with a last bit that both have
both_last : (i u a b : ℕ) → i ≡ a * 2 + 1 → u ≡ b * 2 + 1 → has_bits i u ≡ has_bits a b
both_last i u a b p q = bits_at i u a b 1 1 (omega arith) (omega arith) (omega arith) (omega arith) ∙ and_true (has_bits a b)

-- with a last bit that the upper number lacks
missing_last : (i u a b : ℕ) → i ≡ a * 2 → u ≡ b * 2 + 1 → has_bits i u ≡ false
missing_last i u a b p q = bits_at i u a b 0 1 (omega arith) (omega arith) (omega arith) (omega arith) ∙ and_false (has_bits a b)

halved : (n : ℕ) → (n ≡ n / 2 * 2) ⊎ (n ≡ n / 2 * 2 + 1)
halved n =
    elim (cases_eq (n % 2) 0) [
      | inl e ↦ inl (omega arith)
      | inr o ↦ inr (omega arith)
    ]

differ_false : (x : Bool) → differ x false ≡ x
differ_false true = refl
differ_false false = refl

differ_self : (x : Bool) → differ x x ≡ false
differ_self true = refl
differ_self false = refl

-- Pascal's rule, by halves
pascal_below : (n i u : ℕ) → i < n → has_bits (suc i) (suc u) ≡ differ (has_bits i u) (has_bits i (suc u))
pascal_below zero i u l = absurd (omega arith)
pascal_below (suc n) i u l =
    let a : ℕ = i / 2 in
    let b : ℕ = u / 2 in
    elim (halved i) [
      | inl p ↦ elim (halved u) [
        | inl q ↦
            both_last (suc i) (suc u) a b (omega arith) (omega arith)
            ∙ sym (differ_false (has_bits a b))
            ∙ sym (ap₂ differ (no_last i u a b (inl p) q) (missing_last i (suc u) a b p (omega arith)))
        | inr q ↦
            no_last (suc i) (suc u) a (suc b) (inr (omega arith)) (omega arith)
            ∙ sym (ap₂ differ (missing_last i u a b p q) (no_last i (suc u) a (suc b) (inl p) (omega arith)))
      ]
      | inr p ↦ elim (halved u) [
        | inl q ↦
            missing_last (suc i) (suc u) (suc a) b (omega arith) (omega arith)
            ∙ sym (differ_self (has_bits a b))
            ∙ sym (ap₂ differ (no_last i u a b (inr p) q) (both_last i (suc u) a b p (omega arith)))
        | inr q ↦
            no_last (suc i) (suc u) (suc a) (suc b) (inl (omega arith)) (omega arith)
            ∙ pascal_below n a b (omega arith)
            ∙ sym (ap₂ differ (both_last i u a b p q) (no_last i (suc u) a (suc b) (inr p) (omega arith)))
      ]
    ]

pub pascal : (i u : ℕ) → has_bits (suc i) (suc u) ≡ differ (has_bits i u) (has_bits i (suc u))
pascal i u = pascal_below (suc i) i u (omega arith)

-- nothing is asked of a number without bits
pub bits_none : (i : ℕ) → has_bits i 0 ≡ true
bits_none i = let least : bit_and i 0 ≤ 0 = and_le_r i 0 in eq-eqb (bit_and i 0) 0 (omega arith)

-- zero has no bits
pub zero_bits : (u : ℕ) → has_bits 0 (suc u) ≡ false
zero_bits u = ne_eqb 0 (suc u) (λ e. omega arith)

-- one where odd
sum_odd : (x y : Bool) (m n : ℕ) → m % 2 ≡ cond x 1 0 → n % 2 ≡ cond y 1 0 → (m + n) % 2 ≡ cond (differ x y) 1 0
sum_odd true true m n p q = omega arith
sum_odd true false m n p q = omega arith
sum_odd false true m n p q = omega arith
sum_odd false false m n p q = omega arith

binomial_first : (i : ℕ) → binomial i 0 ≡ 1
unfolding binomial
binomial_first zero = refl
binomial_first (suc i) = refl

binomial_none : (u : ℕ) → binomial 0 (suc u) ≡ 0
unfolding binomial
binomial_none u = refl

binomial_next : (i u : ℕ) → binomial (suc i) (suc u) ≡ binomial i u + binomial i (suc u)
unfolding binomial
binomial_next i u = refl

-- a binomial modulo two
pub parity : (i u : ℕ) → binomial i u % 2 ≡ cond (has_bits i u) 1 0
parity i zero = ap (λ n. n % 2) (binomial_first i) ∙ sym (ap (λ b. cond b 1 0) (bits_none i))
parity zero (suc u) = ap (λ n. n % 2) (binomial_none u) ∙ sym (ap (λ b. cond b 1 0) (zero_bits u))
parity (suc i) (suc u) =
    ap (λ n. n % 2) (binomial_next i u)
    ∙ sum_odd (has_bits i u) (has_bits i (suc u)) (binomial i u) (binomial i (suc u)) (parity i u) (parity i (suc u))
    ∙ sym (ap (λ b. cond b 1 0) (pascal i u))

pub odd_binomial : (i u : ℕ) → IsTrue (has_bits i u) ↔ (binomial i u % 2 ≡ 1)
odd_binomial i u =
    let rest : binomial i u % 2 ≡ cond (has_bits i u) 1 0 = parity i u in
    ((λ h. rest ∙ ap (λ b. cond b 1 0) h), (λ h. told (has_bits i u) (sym rest ∙ h)))
  where
    told : (b : Bool) → cond {A = ℕ} b 1 0 ≡ 1 → b ≡ true
    told true e = refl
    told false e = absurd (omega arith)
