-- Sum and product of GF(2^m) on any numbers: exclusive or is a group in which each number is its own negative, and the product is linear in each factor.
use Rattle.std.proofs.Common.{◌≡◌, ℕ, zero, suc, ◌+◌, ◌*◌, ◌-◌, ◌%◌, ◌^◌, ◌<◌, ◌==◌, Bool, true, false, cond, refl, sym, ◌∙◌, ap, ap₂, arith}
use Rattle.std.specs.Prelude.{bit_xor}
use Rattle.std.specs.Int.{bit_at}
use Rattle.std.proofs.lemmas.Nat.Bits.{bit_at_xor, bit_at-lt}
use Rattle.std.proofs.lemmas.Nat.{pow_pos}
use lib.Bits.{xor_comm, xor_assoc, xor_self, xor_zero_l, xor_zero_r, xor_block}
use Rattle.gf_terms.specs.Arithmetic.{carryless, reduced, reduction, product}

-- four numbers, paired the other way
pub xor_middle : (a b c d : ℕ) → bit_xor (bit_xor a b) (bit_xor c d) ≡ bit_xor (bit_xor a c) (bit_xor b d)
xor_middle a b c d =
    xor_assoc a b (bit_xor c d)
    ∙ ap (λ t. bit_xor a t) (sym (xor_assoc b c d) ∙ ap (λ t. bit_xor t d) (xor_comm b c) ∙ xor_assoc c b d)
    ∙ sym (xor_assoc a c (bit_xor b d))

-- v where the bit b is set, and 0 where it is not
taken : (a b v : ℕ) → a < 2 → b < 2 → cond ((a + b) % 2 == 1) v 0 ≡ bit_xor (cond (a == 1) v 0) (cond (b == 1) v 0)
taken zero zero v h k = refl
taken zero (suc zero) v h k = sym (xor_zero_l v)
taken (suc zero) zero v h k = sym (xor_zero_r v)
taken (suc zero) (suc zero) v h k = sym (xor_self v)
taken (suc (suc a)) b v h k = absurd (omega arith)
taken zero (suc (suc b)) v h k = absurd (omega arith)
taken (suc zero) (suc (suc b)) v h k = absurd (omega arith)

taken_sum : (y z i v : ℕ) → cond (bit_at (bit_xor y z) i == 1) v 0 ≡ bit_xor (cond (bit_at y i == 1) v 0) (cond (bit_at z i == 1) v 0)
taken_sum y z i v = ap (λ t. cond (t == 1) v 0) (bit_at_xor y z i) ∙ taken (bit_at y i) (bit_at z i) v (bit_at-lt y i) (bit_at-lt z i)

-- a shift of a sum
pub shifted_sum : (x y i : ℕ) → bit_xor x y * 2 ^ i ≡ bit_xor (x * 2 ^ i) (y * 2 ^ i)
shifted_sum x y i =
    let low : 0 < 2 ^ i = pow_pos i in
    let e : bit_xor (x * 2 ^ i + 0) (y * 2 ^ i + 0) ≡ bit_xor x y * 2 ^ i + bit_xor 0 0 = xor_block i x y 0 0 low low in
    let f : (n : ℕ) → n + 0 ≡ n = λ n. omega arith in
    sym (sym (ap₂ bit_xor (f (x * 2 ^ i)) (f (y * 2 ^ i))) ∙ e ∙ f (bit_xor x y * 2 ^ i))

pub carryless_right : (n x y z : ℕ) → carryless n x (bit_xor y z) ≡ bit_xor (carryless n x y) (carryless n x z)
unfolding carryless
carryless_right zero x y z = refl
carryless_right (suc i) x y z =
    ap₂ bit_xor (carryless_right i x y z) (taken_sum y z i (x * 2 ^ i))
    ∙ xor_middle (carryless i x y) (carryless i x z) (cond (bit_at y i == 1) (x * 2 ^ i) 0) (cond (bit_at z i == 1) (x * 2 ^ i) 0)

either_sum : (b : Bool) (v w : ℕ) → cond b (bit_xor v w) 0 ≡ bit_xor (cond b v 0) (cond b w 0)
either_sum true v w = refl
either_sum false v w = refl

pub carryless_left : (n x y z : ℕ) → carryless n (bit_xor x y) z ≡ bit_xor (carryless n x z) (carryless n y z)
unfolding carryless
carryless_left zero x y z = refl
carryless_left (suc i) x y z =
    ap₂ bit_xor (carryless_left i x y z) (ap (λ t. cond (bit_at z i == 1) t 0) (shifted_sum x y i) ∙ either_sum (bit_at z i == 1) (x * 2 ^ i) (y * 2 ^ i))
    ∙ xor_middle (carryless i x z) (carryless i y z) (cond (bit_at z i == 1) (x * 2 ^ i) 0) (cond (bit_at z i == 1) (y * 2 ^ i) 0)

-- one step of the reduction adds a multiple of the polynomial or nothing
taken_off : (b : Bool) (p v : ℕ) → cond b (bit_xor p v) p ≡ bit_xor p (cond b v 0)
taken_off true p v = refl
taken_off false p v = sym (xor_zero_r p)

reduced_step : (k v p q : ℕ) → cond (bit_at (bit_xor p q) k == 1) (bit_xor (bit_xor p q) v) (bit_xor p q)
    ≡ bit_xor (cond (bit_at p k == 1) (bit_xor p v) p) (cond (bit_at q k == 1) (bit_xor q v) q)
reduced_step k v p q =
    taken_off (bit_at (bit_xor p q) k == 1) (bit_xor p q) v
    ∙ ap (λ t. bit_xor (bit_xor p q) t) (taken_sum p q k v)
    ∙ xor_middle p q (cond (bit_at p k == 1) v 0) (cond (bit_at q k == 1) v 0)
    ∙ sym (ap₂ bit_xor (taken_off (bit_at p k == 1) p v) (taken_off (bit_at q k == 1) q v))

pub reduced_sum : (m n g p q : ℕ) → reduced m n g (bit_xor p q) ≡ bit_xor (reduced m n g p) (reduced m n g q)
unfolding reduced
reduced_sum m zero g p q = refl
reduced_sum m (suc i) g p q =
    ap (reduced m i g) (reduced_step (m + i) (g * 2 ^ i) p q)
    ∙ reduced_sum m i g (cond (bit_at p (m + i) == 1) (bit_xor p (g * 2 ^ i)) p) (cond (bit_at q (m + i) == 1) (bit_xor q (g * 2 ^ i)) q)

-- the product is linear in the second factor
pub product_plus : (m x y z : ℕ) → product m x (bit_xor y z) ≡ bit_xor (product m x y) (product m x z)
unfolding product
product_plus m x y z =
    ap (reduced m (m - 1) (reduction m)) (carryless_right m x y z) ∙ reduced_sum m (m - 1) (reduction m) (carryless m x y) (carryless m x z)

-- and in the first
pub plus_product : (m x y z : ℕ) → product m (bit_xor x y) z ≡ bit_xor (product m x z) (product m y z)
unfolding product
plus_product m x y z =
    ap (reduced m (m - 1) (reduction m)) (carryless_left m x y z) ∙ reduced_sum m (m - 1) (reduction m) (carryless m x z) (carryless m y z)

-- so a product with 0 is 0
pub product_zero : (m x : ℕ) → product m x 0 ≡ 0
product_zero m x = product_plus m x 0 0 ∙ xor_self (product m x 0)

pub zero_product : (m x : ℕ) → product m 0 x ≡ 0
zero_product m x = plus_product m 0 0 x ∙ xor_self (product m 0 x)
