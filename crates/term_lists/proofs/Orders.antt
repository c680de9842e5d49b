-- How many orders of derivatives there are.
use Rattle.std.proofs.Common.{◌≡◌, ℕ, zero, suc, ◌+◌, ◌*◌, ◌/◌, refl, ap, arith}
use Rattle.decoding_terms.specs.Parameters.{equation_count, term_count}
use Rattle.decoding_terms.proofs.Terms.{term_count-next}

-- twice the number of orders below s
pub triangle : (s : ℕ) → 2 * term_count 1 s ≡ s * (s + 1)
triangle zero = refl
triangle (suc s) =
    let next = term_count-next 1 s (omega arith) in
    let same : s + 1 ≡ suc s = omega arith in
    let counts : term_count 1 (s + 1) ≡ term_count 1 (suc s) = ap (term_count 1) same in
    let whole : s / 1 ≡ s = omega arith in
    omega (arith, triangle s, next, counts, whole)

pub orders_count : (r s : ℕ) → r * term_count 1 s ≡ equation_count r s
orders_count r s =
    let twice : r * (2 * term_count 1 s) ≡ r * (s * (s + 1)) = ap (λ n. r * n) (triangle s) in
    omega (arith, twice)
