-- How the weight, the bound, the number of points and the agreement are to each other.
use Rattle.std.proofs.Common.{◌≡◌, ℕ, suc, ◌+◌, ◌*◌, ◌<◌, ◌≤◌, ap, arith}
use Rattle.std.proofs.Math.Nat.{mul-le-mul, mul-le-mul_left, mul-le-mul_right, lt_of_mul-lt-mul_left}

pub above_weight : (w c r t : ℕ) → c * c * w < r → r ≤ t * c → c * w < t
above_weight w c r t many share =
    let scaled : c * (c * w) < c * t = omega (arith, many, share) in
    lt_of_mul-lt-mul_left c scaled

-- c (t² - w r) is at least r
pub room : (w c r t : ℕ) → c * w < t → r ≤ t * c → c * (w * r) + r ≤ c * (t * t)
room w c r t above share =
    let more : r * suc (c * w) ≤ r * t = mul-le-mul_left r above in
    let most : r * t ≤ t * c * t = mul-le-mul_right t share in
    omega (arith, more, most)

pub square_above : (w c r t : ℕ) → 1 ≤ r → c * (w * r) + r ≤ c * (t * t) → w * r < t * t
square_above w c r t some enough =
    let scaled : c * (w * r) < c * (t * t) = omega (arith, some, enough) in
    lt_of_mul-lt-mul_left c scaled

-- a multiplicity m that does not do is small: c² (t² - w r) ≥ r (r - c² w) and c² (w r - t) ≤ r (c² w - c), where d, g and q are the differences
pub too_few : (w c r t d m q g : ℕ) → 1 ≤ c → 1 ≤ r → r ≡ c * c * w + q → r ≤ t * c → t * t ≡ d + w * r → g + t ≡ w * r → m * d ≤ g → m * q < c * c * w
too_few w c r t d m q g some_c some_r whole share square gap less =
    let squares : r * r ≤ (t * c) * (t * c) = mul-le-mul share share in
    let d_scaled : c * c * (t * t) ≡ c * c * (d + w * r) = ap (λ x. c * c * x) square in
    let r_scaled : r * r ≡ r * (c * c * w + q) = ap (λ x. r * x) whole in
    let room : r * q ≤ c * c * d = omega (arith, squares, d_scaled, r_scaled) in
    let times : m * (r * q) ≤ m * (c * c * d) = mul-le-mul_left m room in
    let most : c * c * (m * d) ≤ c * c * g = mul-le-mul_left (c * c) less in
    let g_scaled : c * c * (g + t) ≡ c * c * (w * r) = ap (λ x. c * c * x) gap in
    let shares : c * r ≤ c * (t * c) = mul-le-mul_left c share in
    let one : 1 * r ≤ c * r = mul-le-mul_right r some_c in
    let scaled : r * (m * q) < r * (c * c * w) = omega (arith, times, most, g_scaled, shares, one, some_r) in
    lt_of_mul-lt-mul_left r scaled
