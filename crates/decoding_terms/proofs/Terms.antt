-- How many terms weigh less than a number.
use Rattle.std.proofs.Common.{◌≡◌, ◌⊎◌, inl, inr, ℕ, zero, suc, ◌+◌, ◌-◌, ◌*◌, ◌/◌, ◌%◌, ◌<◌, ◌≤◌, min, ap, arith}
use Rattle.std.proofs.lemmas.Bool.Decides.{nat_tests}
use Rattle.std.proofs.lemmas.Bool.{cases_lt}
use Rattle.std.proofs.Math.Nat.{mul-le-mul_left, mul-le-mul_right, mul-div-le, div-add-mod, mod-lt}
use Rattle.algebra.specs.Roots.{total}
use Rattle.decoding_terms.specs.Parameters.{term_count}

-- what one more power of y adds to the sum
one_power : (w x : ℕ) → 1 ≤ w → x * (x + 1) ≤ 2 * w * x + (x - w) * (x - w + 1)
one_power w x some = by_order (cases_lt x w)
  where
    by_order : (x < w) ⊎ (w ≤ x) → x * (x + 1) ≤ 2 * w * x + (x - w) * (x - w + 1)
    by_order (inl less) =
        let most : x * suc x ≤ x * w = mul-le-mul_left x less in
        omega (arith, most)
    by_order (inr more) =
        let is : x ≡ x - w + w = omega (arith, more) in
        let square : w * 1 ≤ w * w = mul-le-mul_left w some in
        let left : x * (x + 1) ≡ (x - w + w) * (x - w + w + 1) = ap (λ z. z * (z + 1)) is in
        let right : 2 * w * x ≡ 2 * w * (x - w + w) = ap (λ z. 2 * w * z) is in
        omega (arith, square, left, right)

powers : (w e : ℕ) → 1 ≤ w → (n : ℕ) → e * (e + 1) ≤ 2 * w * total n (λ j. e - w * j) + (e - w * n) * (e - w * n + 1)
powers w e some zero = let none : e - w * 0 ≡ e = omega arith in rw none (omega arith)
powers w e some (suc n) =
    let step = one_power w (e - w * n) some in
    let before = powers w e some n in
    let less : e - w * suc n ≡ e - w * n - w = omega arith in
    rw less (omega (arith, step, before))

-- about half of e² / w
pub triangle : (w e : ℕ) → 1 ≤ w → e * (e + 1) ≤ 2 * w * term_count w e
triangle w e some =
    let all = powers w e some e in
    let far : 1 * e ≤ w * e = mul-le-mul_right e some in
    let none : e - w * e ≡ 0 = omega (arith, far) in
    let at_end : (e - w * e) * (e - w * e + 1) ≡ 0 = ap (λ d. d * (d + 1)) none in
    omega (arith, all, at_end)

-- a weight that is greater by one: one more power of x beside each y^j with w j ≤ e
one_more : (w e q n : ℕ) → w * q ≤ e → e < w * (q + 1) → total n (λ j. e + 1 - w * j) ≡ total n (λ j. e - w * j) + min n (q + 1)
one_more w e q zero low high = grind (arith, nat_tests)
one_more w e q (suc n) low high = by_order (one_more w e q n low high) (cases_lt n (q + 1))
  where
    by_order : total n (λ j. e + 1 - w * j) ≡ total n (λ j. e - w * j) + min n (q + 1) → (n < q + 1) ⊎ (q + 1 ≤ n)
        → total (suc n) (λ j. e + 1 - w * j) ≡ total (suc n) (λ j. e - w * j) + min (suc n) (q + 1)
    by_order before (inl less) =
        let inside : w * n ≤ w * q = mul-le-mul_left w (omega (arith, less)) in
        let here : min n (q + 1) ≡ n = grind (arith, nat_tests) in
        let next : min (suc n) (q + 1) ≡ suc n = grind (arith, nat_tests) in
        omega (arith, before, inside, here, next, low)
    by_order before (inr more) =
        let outside : w * (q + 1) ≤ w * n = mul-le-mul_left w more in
        let here : min n (q + 1) ≡ q + 1 = grind (arith, nat_tests) in
        let next : min (suc n) (q + 1) ≡ q + 1 = grind (arith, nat_tests) in
        omega (arith, before, outside, here, next, high)

pub term_count-next : (w e : ℕ) → 1 ≤ w → term_count w (e + 1) ≡ term_count w e + (e / w + 1)
term_count-next w e some =
    let low : w * (e / w) ≤ e = mul-div-le e w in
    let rest : e % w < w = mod-lt e some in
    let whole = div-add-mod e w in
    let high : e < w * (e / w + 1) = omega (arith, rest, whole) in
    let sums = one_more w e (e / w) (e + 1) low high in
    let far : 1 * e ≤ w * e = mul-le-mul_right e some in
    let last : e - w * e ≡ 0 = omega (arith, far) in
    let few : e / w ≤ e = quotient_few w e some low in
    let least : min (e + 1) (e / w + 1) ≡ e / w + 1 = grind (arith, nat_tests) in
    let split : total (e + 1) (λ j. e - w * j) ≡ (e - w * e) + total e (λ j. e - w * j) = ap (λ n. total n (λ j. e - w * j)) (suc_is e) in
    omega (arith, sums, split, last, least)
  where
    suc_is : (e : ℕ) → e + 1 ≡ suc e
    suc_is e = omega arith

    quotient_few : (w e : ℕ) → 1 ≤ w → w * (e / w) ≤ e → e / w ≤ e
    quotient_few w e some low = let once : 1 * (e / w) ≤ w * (e / w) = mul-le-mul_right (e / w) some in omega (arith, once, low)

-- a greater weight has no fewer terms
pub term_count-rises : (w e : ℕ) → 1 ≤ w → (more : ℕ) → term_count w e ≤ term_count w (e + more)
term_count-rises w e some zero = let same : e + 0 ≡ e = omega arith in rw same (omega arith)
term_count-rises w e some (suc more) =
    let same : e + suc more ≡ e + more + 1 = omega arith in
    rw same (omega (arith, term_count-rises w e some more, term_count-next w (e + more) some))

-- there are at least as many as the powers of x alone
pub many : (w e : ℕ) → 1 ≤ w → e ≤ term_count w e
many w zero some = omega arith
many w (suc e) some =
    let next = term_count-next w e some in
    let is : e + 1 ≡ suc e = omega arith in
    let same : term_count w (e + 1) ≡ term_count w (suc e) = ap (term_count w) is in
    omega (arith, many w e some, next, same)
