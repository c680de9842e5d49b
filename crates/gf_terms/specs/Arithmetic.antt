-- The arithmetic of the field GF(2^m) on the numbers below 2^m: bit i of a number is the coefficient of x^i of a polynomial over GF(2).
-- The sum of two numbers is their exclusive or. Their product is that of the polynomials, reduced by a polynomial of degree m.
-- Source: any text on finite fields. The choice of the five polynomials, each of which is primitive, is this project's own.
use Rattle.std.specs.Prelude.{ℕ, zero, suc, ◌+◌, ◌*◌, ◌-◌, ◌^◌, ◌==◌, bit_xor, if◌then◌else◌}
use Rattle.std.specs.Int.{bit_at}

-- the product without carries: the exclusive or of x · 2^i over each i below n at which y has a bit
unfoldable pub carryless : (n x y : ℕ) → ℕ
carryless zero x y = 0
carryless (suc i) x y = bit_xor (carryless i x y) (if bit_at y i == 1 then x * 2 ^ i else 0)

-- for each i below n, from the top down: where bit m + i is set, the exclusive or with g · 2^i
unfoldable pub reduced : (m n g p : ℕ) → ℕ
reduced m zero g p = p
reduced m (suc i) g p = reduced m i g (if bit_at p (m + i) == 1 then bit_xor p (g * 2 ^ i) else p)

-- the polynomial of degree m by which products are reduced, for m = 4 to 8
unfoldable pub reduction : (m : ℕ) → ℕ
reduction m =
    if m == 4 then 0x13
    else (if m == 5 then 0x25
    else (if m == 6 then 0x43
    else (if m == 7 then 0x89
    else 0x11D)))

-- the product of the elements x and y of GF(2^m)
unfoldable pub product : (m x y : ℕ) → ℕ
product m x y = reduced m (m - 1) (reduction m) (carryless m x y)

-- the power of x with the exponent i
unfoldable pub power : (m x i : ℕ) → ℕ
power m x zero = 1
power m x (suc i) = product m x (power m x i)
