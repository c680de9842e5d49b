-- What is linear holds for all numbers below 2^m as soon as it holds for the powers of two below 2^m; and tests over all numbers below a bound.
use Rattle.std.proofs.Common.{◌≡◌, ℕ, zero, suc, ◌+◌, ◌*◌, ◌/◌, ◌%◌, ◌^◌, ◌<◌, ◌≤◌, ◌&&◌, ◌≢◌, ◌⊎◌, inl, inr, Bool, true, false, refl, sym, ◌∙◌, subst, arith}
use Rattle.std.specs.Prelude.{bit_xor}
use Rattle.std.proofs.lemmas.Nat.{pow_pos, div-add-mod', div_below}
use Rattle.std.proofs.Math.Nat.{pow-suc}
use Rattle.std.proofs.lemmas.Bool.Decides.{eqb_tells}
use lib.Bits.{xor_shifted}

high : (P : ℕ → Type 0) → P 0 → (q v : ℕ) → q < 2 → P v → P (q * v)
high P none zero v h one = let e : 0 ≡ 0 * v = omega arith in subst P e none
high P none (suc zero) v h one = let e : v ≡ 1 * v = omega arith in subst P e one
high P none (suc (suc q)) v h one = absurd (omega arith)

-- what holds of zero, of sums and of the powers of two below 2^m
pub by_basis : (P : ℕ → Type 0) → P 0 → ((x y : ℕ) → P x → P y → P (bit_xor x y)) → (m : ℕ) → ((i : ℕ) → i < m → P (2 ^ i)) → (x : ℕ) → x < 2 ^ m → P x
by_basis P none sum zero each x below = let e : 0 ≡ x = omega arith in subst P e none
by_basis P none sum (suc k) each x below =
    let some : 0 < 2 ^ k = pow_pos k in
    let whole : x / 2 ^ k * 2 ^ k + x % 2 ^ k ≡ x = div-add-mod' x (2 ^ k) in
    let rest : x % 2 ^ k < 2 ^ k = omega arith in
    let wide : x < 2 * 2 ^ k = omega (arith, pow-suc 2 k) in
    let bit : x / 2 ^ k < 2 = div_below x (2 ^ k) 2 some wide in
    let low : P (x % 2 ^ k) = by_basis P none sum k (λ i h. each i (omega arith)) (x % 2 ^ k) rest in
    let e : bit_xor (x / 2 ^ k * 2 ^ k) (x % 2 ^ k) ≡ x = xor_shifted (x / 2 ^ k) k (x % 2 ^ k) rest ∙ whole in
    subst P e (sum (x / 2 ^ k * 2 ^ k) (x % 2 ^ k) (high P none (x / 2 ^ k) (2 ^ k) bit (each k (omega arith))) low)

-- a test of each number below n
unfoldable pub each_below : ℕ → (ℕ → Bool) → Bool
each_below zero f = true
each_below (suc n) f = each_below n f && f n

pub both : (a b : Bool) → (a && b) ≡ true → (a ≡ true) × (b ≡ true)
both true b h = (refl, h)
both false b h = cc

split : (i n : ℕ) → i < suc n → (i ≡ n) ⊎ (i < n)
split i n below = elim (eqb_tells i n) [ inl e ↦ inl e.1 | inr e ↦ let h : i ≢ n = e.1 in inr (omega arith) ]

pub at_below : (n : ℕ) (f : ℕ → Bool) → each_below n f ≡ true → (i : ℕ) → i < n → f i ≡ true
unfolding each_below
at_below zero f h i below = absurd (omega arith)
at_below (suc n) f h i below =
    elim (split i n below) [ inl e ↦ subst (λ (k : ℕ). f k ≡ true) (sym e) (both (each_below n f) (f n) h).1 | inr less ↦ at_below n f (both (each_below n f) (f n) h).0 i less ]

-- a claim on m from 4 to 8, number by number
pub five : (P : ℕ → Type 0) → P 4 → P 5 → P 6 → P 7 → P 8 → (m : ℕ) → 4 ≤ m → m ≤ 8 → P m
five P four fifth six seven eight m low high =
    elim (eqb_tells m 4) [
      | inl e ↦ subst P (sym e.1) four
      | inr a ↦ elim (eqb_tells m 5) [
        | inl e ↦ subst P (sym e.1) fifth
        | inr b ↦ elim (eqb_tells m 6) [
          | inl e ↦ subst P (sym e.1) six
          | inr c ↦ elim (eqb_tells m 7) [
            | inl e ↦ subst P (sym e.1) seven
            | inr d ↦
                let na : m ≢ 4 = a.1 in
                let nb : m ≢ 5 = b.1 in
                let nc : m ≢ 6 = c.1 in
                let nd : m ≢ 7 = d.1 in
                let e : 8 ≡ m = omega arith in
                subst P e eight
          ]
        ]
      ]
    ]
