-- A number below 256 by its low and its high half, and a product by the products of the two.
use Rattle.std.proofs.Common.{◌≡◌, ℕ, ◌+◌, ◌*◌, ◌/◌, ◌%◌, ◌^◌, ◌<◌, ◌≤◌, List, get_or, ap, ap₂, ◌∙◌, sym, arith, lit<}
use Rattle.std.specs.Prelude.{bit_xor}
use Rattle.std.proofs.Math.Nat.{pow-le-pow_right}
use lib.Bits.{xor_shifted, xor_comm}
use Rattle.gf_terms.specs.Arithmetic.{product}
use Rattle.gf_terms.proofs.Linear.{product_plus}
use Rattle.gf2m.specs.Slices.{HasProducts}

pub sixteen_below : (m : ℕ) → 4 ≤ m → 16 ≤ 2 ^ m
sixteen_below m low = pow-le-pow_right {n = 2} (lit< tt) low

pub at_most_256 : (m : ℕ) → m ≤ 8 → 2 ^ m ≤ 256
at_most_256 m high = pow-le-pow_right {n = 2} (lit< tt) high

halves : (y : ℕ) → y < 256 → bit_xor (y % 16) (16 * (y / 16 % 16)) ≡ y
halves y h =
    let e : 16 * (y / 16 % 16) ≡ y / 16 * 2 ^ 4 = omega arith in
    let f : y / 16 * 2 ^ 4 + y % 16 ≡ y = omega arith in
    let r : y % 16 < 2 ^ 4 = omega arith in
    ap (bit_xor (y % 16)) e ∙ xor_comm (y % 16) (y / 16 * 2 ^ 4) ∙ xor_shifted (y / 16) 4 (y % 16) r ∙ f

pub product_by_halves : (m factor : ℕ) (low high : List ℕ) → m ≤ 8 → HasProducts m factor low high → (y : ℕ) → y < 2 ^ m
    → bit_xor (get_or low (y % 16) 0) (get_or high (y / 16 % 16) 0) ≡ product m factor y
product_by_halves m factor low high most t y h =
    let b : 2 ^ m ≤ 256 = at_most_256 m most in
    let c : 16 * (y / 16 % 16) < 2 ^ m = omega arith in
    ap₂ bit_xor (t.below (y % 16) (omega arith)) (t.sixteens (y / 16 % 16) (omega arith) c)
    ∙ sym (product_plus m factor (y % 16) (16 * (y / 16 % 16)))
    ∙ ap (product m factor) (halves y (omega arith))

-- the same, where the quotient is known to be below 16
pub product_by_parts : (m factor : ℕ) (low high : List ℕ) → m ≤ 8 → HasProducts m factor low high → (y : ℕ) → y < 2 ^ m
    → bit_xor (get_or low (y % 16) 0) (get_or high (y / 16) 0) ≡ product m factor y
product_by_parts m factor low high most t y h =
    let b : 2 ^ m ≤ 256 = at_most_256 m most in
    let e : y / 16 ≡ y / 16 % 16 = omega arith in
    ap (λ (n : ℕ). bit_xor (get_or low (y % 16) 0) (get_or high n 0)) e ∙ product_by_halves m factor low high most t y h
