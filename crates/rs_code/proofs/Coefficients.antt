-- Coefficients as numbers.
use Rattle.std.proofs.Common.{◌≡◌, ℕ, ◌+◌, ◌*◌, ◌^◌, ◌<◌, ◌≤◌, List, [], ◌∷◌, length, map, drop, length-drop, zero, suc, arith}
use Rattle.std.specs.List.{AllByRecursion}
use Rattle.std.proofs.Math.Nat.{mul-le-mul, mul-le-mul_left}
use Rattle.std.proofs.Math.Pow.{pow_mono}
use Rattle.code_terms.specs.Symbols.{packed}
use Rattle.code_terms.proofs.Packing.{packed-below}
use Rattle.rs_code.proofs.FieldSize.{most_elements}

-- the numbers of elements are below 2^m
pub numbers_below : {F : Type 0} (number : F → ℕ) (m q : ℕ) → ((x : F) → number x < q) → q ≡ 2 ^ m → (xs : List F) → AllByRecursion (λ c. c < 2 ^ m) (map number xs)
numbers_below number m q below size [] = tt
numbers_below number m q below size (x ∷ xs) = (omega (arith, below x, size), numbers_below number m q below size xs)

all_from : (P : ℕ → Type 0) (n : ℕ) (cs : List ℕ) → AllByRecursion P cs → AllByRecursion P (drop n cs)
all_from P zero cs all = all
all_from P (suc n) [] all = tt
all_from P (suc n) (c ∷ cs) all = all_from P n cs all.1

-- at most 12 coefficients of at most 8 bits leave room for one more
pub packed-room : (m q : ℕ) (cs : List ℕ) (j : ℕ) → q ≡ 2 ^ m → m ≤ 8 → length cs ≤ 13 → 0 < j → AllByRecursion (λ c. c < 2 ^ m) cs → packed m (drop j cs) * q + 255 < 2 ^ 128
packed-room m q cs j size high few some small =
    let rest : List ℕ = drop j cs in
    let count : length rest ≤ 12 = omega (arith, length-drop j cs) in
    let below : packed m rest < 2 ^ (m * length rest) = packed-below m rest (all_from (λ c. c < 2 ^ m) j cs small) in
    let bits : m * length rest ≤ 96 = mul-le-mul high count in
    let wide : 2 ^ (m * length rest) ≤ 2 ^ 96 = pow_mono bits in
    let most : packed m rest * q ≤ packed m rest * 256 = mul-le-mul_left (packed m rest) (most_elements m q size high) in
    omega arith
