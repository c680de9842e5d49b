-- A message below 2^(mk) is known by its coefficients, of which those from k on are 0.
use Rattle.std.proofs.Common.{◌≡◌, ℕ, zero, suc, ◌+◌, ◌*◌, ◌/◌, ◌%◌, ◌^◌, ◌<◌, ◌≤◌, sym, ap, ap₂, ◌∙◌, arith}
use Rattle.std.proofs.Math.Nat.{div-div-eq-div-mul, div-one, zero-div, zero-mod, mul-zero}
use Rattle.std.proofs.lemmas.Nat.{pow_pos, pow-add, div-add-mod', div_below}
use Rattle.code_terms.specs.Symbols.{coefficient}

one_more : (m n : ℕ) → 2 ^ (m * suc n) ≡ 2 ^ m * 2 ^ (m * n)
one_more m n = let e : m * suc n ≡ m + m * n = omega arith in ap (λ i. 2 ^ i) e ∙ pow-add 2 m (m * n)

coefficient-first : (m u : ℕ) → coefficient m u 0 ≡ u % 2 ^ m
coefficient-first m u =
    let power_zero : 2 ^ (m * 0) ≡ 1 = ap (λ i. 2 ^ i) (mul-zero m) in
    ap (λ n. (u / n) % 2 ^ m) power_zero ∙ ap (λ n. n % 2 ^ m) (div-one u)

coefficient-next : (m u j : ℕ) → coefficient m u (suc j) ≡ coefficient m (u / 2 ^ m) j
coefficient-next m u j =
    ap (λ n. (u / n) % 2 ^ m) (one_more m j) ∙ ap (λ n. n % 2 ^ m) (sym (div-div-eq-div-mul u (2 ^ m) (2 ^ (m * j))))

-- a message without its first coefficient
shorter : (m k u : ℕ) → u < 2 ^ (m * suc k) → u / 2 ^ m < 2 ^ (m * k)
shorter m k u below = div_below u (2 ^ m) (2 ^ (m * k)) (pow_pos m) (omega (arith, below, one_more m k))

none_left : (m u : ℕ) → u < 2 ^ (m * 0) → u ≡ 0
none_left m u below = let power_zero : 2 ^ (m * 0) ≡ 1 = ap (λ i. 2 ^ i) (mul-zero m) in omega arith

pub coefficient-past : (m k u j : ℕ) → u < 2 ^ (m * k) → k ≤ j → coefficient m u j ≡ 0
coefficient-past m zero u j below past =
    ap (λ n. (n / 2 ^ (m * j)) % 2 ^ m) (none_left m u below) ∙ ap (λ n. n % 2 ^ m) (zero-div (2 ^ (m * j))) ∙ zero-mod (2 ^ m)
coefficient-past m (suc k) u zero below past = absurd (omega arith)
coefficient-past m (suc k) u (suc j) below past =
    coefficient-next m u j ∙ coefficient-past m k (u / 2 ^ m) j (shorter m k u below) (omega arith)

-- two messages with the same coefficients
pub same_message : (m k u v : ℕ) → u < 2 ^ (m * k) → v < 2 ^ (m * k) → ((j : ℕ) → coefficient m u j ≡ coefficient m v j) → u ≡ v
same_message m zero u v us vs same = none_left m u us ∙ sym (none_left m v vs)
same_message m (suc k) u v us vs same =
    let high : u / 2 ^ m ≡ v / 2 ^ m =
    same_message m k (u / 2 ^ m) (v / 2 ^ m) (shorter m k u us) (shorter m k v vs)
    (λ j. sym (coefficient-next m u j) ∙ same (suc j) ∙ coefficient-next m v j) in
    let low : u % 2 ^ m ≡ v % 2 ^ m = sym (coefficient-first m u) ∙ same 0 ∙ coefficient-first m v in
    sym (div-add-mod' u (2 ^ m)) ∙ ap₂ (λ a b. a * 2 ^ m + b) high low ∙ div-add-mod' v (2 ^ m)
