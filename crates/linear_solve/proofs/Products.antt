-- Counts of products.
use Rattle.std.proofs.Common.{◌≡◌, ℕ, ◌+◌, ◌-◌, ◌*◌, ◌≤◌, arith}
use Rattle.std.proofs.Math.Nat.{mul-le-mul, mul-le-mul_left}

-- one more step of a loop that counts down from m, at most c products each
pub one_more : (m j k c p q a : ℕ) → k ≡ j + 1 → k ≤ m → p ≤ a + (m - k) * c → q ≤ p + c → q ≤ a + (m - j) * c
one_more m j k c p q a e l h s =
    let d : m - j ≡ m - k + 1 = omega arith in
    rw d (omega (arith, h, s))

-- a step of elimination with t rows left
pub one_row : (t m n : ℕ) → t + 1 ≤ m → 1 + t * (1 + n) ≤ 1 + (m - 1) * (1 + n)
one_row t m n l =
    let less : t ≤ m - 1 = omega arith in
    let both : t * (1 + n) ≤ (m - 1) * (1 + n) = mul-le-mul less (omega arith) in
    omega (arith, both)

-- no more than all steps take
pub all_steps : (m t c q a : ℕ) → q ≤ a + (m - t) * c → q ≤ a + m * c
all_steps m t c q a h =
    let some : m - t ≤ m = omega arith in
    let both : (m - t) * c ≤ m * c = mul-le-mul some (omega arith) in
    omega (arith, h, both)

-- a step of elimination: l after the inverse is taken, q after the other rows are cleared
pub eliminated : (m t k n r w p l q a : ℕ) → k ≡ t + 1 → k ≤ m → p ≤ a + (m - k) * (1 + (m - 1) * (1 + n)) → l ≤ p + 1 → r ≡ t → w ≡ n → q ≤ l + r * (1 + w)
    → q ≤ a + (m - t) * (1 + (m - 1) * (1 + n))
eliminated m t k n r w p l q a one most h search rows wide clear =
    let cleared : q ≤ l + t * (1 + n) = rw (← rows, ← wide) clear in
    let row : 1 + t * (1 + n) ≤ 1 + (m - 1) * (1 + n) = one_row t m n (omega arith) in
    one_more m t k (1 + (m - 1) * (1 + n)) p q a one most h (omega (arith, cleared, row, search))

-- elimination, and one solution
pub within : (m n s p q a : ℕ) → 1 ≤ m → 1 ≤ n → s ≤ m → p ≤ a + m * (1 + (m - 1) * (1 + n)) → q ≤ p + s * (n + 1) → q ≤ a + 3 * (m * m) * n
within m n s p q a rows columns few h more =
    let d : ℕ = m - 1 in
    let is : m ≡ d + 1 = omega arith in
    let each : s * (n + 1) ≤ m * (n + 1) = mul-le-mul few (omega arith) in
    let squares : m * m ≤ (m * m) * n = squares_grow m n columns in
    let square : m ≤ m * m = square_grows m rows in
    let whole : m * (1 + (m - 1) * (1 + n)) + m * (n + 1) ≡ m + m * m + (m * m) * n = whole_count m n d is in
    omega (arith, h, more, each, squares, square, whole)
  where
    squares_grow : (m n : ℕ) → 1 ≤ n → m * m ≤ (m * m) * n
    squares_grow m n l = let b : (m * m) * 1 ≤ (m * m) * n = mul-le-mul_left (m * m) l in omega (arith, b)

    square_grows : (m : ℕ) → 1 ≤ m → m ≤ m * m
    square_grows m l = let b : m * 1 ≤ m * m = mul-le-mul_left m l in omega (arith, b)

    whole_count : (m n d : ℕ) → m ≡ d + 1 → m * (1 + (m - 1) * (1 + n)) + m * (n + 1) ≡ m + m * m + (m * m) * n
    whole_count m n d is = let less : m - 1 ≡ d = omega arith in rw (less, is) (omega arith)

-- elimination alone
pub within_alone : (m n p a : ℕ) → 1 ≤ m → 1 ≤ n → p ≤ a + m * (1 + (m - 1) * (1 + n)) → p ≤ a + 3 * (m * m) * n
within_alone m n p a rows columns h = within m n 0 p p a rows columns (omega arith) h (omega arith)
