-- A symbol is found by nested products, from the last coefficient to the first.
use Rattle.std.proofs.Common.{◌≡◌, ℕ, zero, suc, ◌+◌, ◌-◌, ◌^◌, ◌<◌, ◌≤◌, refl, sym, ap, ap₂, ◌∙◌, add-zero, zero-add, arith}
use Rattle.std.proofs.lemmas.Nat.{pow_pos, pow_below}
use Rattle.std.specs.Prelude.{bit_xor}
use lib.Bits.{xor_zero_l, xor_comm, xor_assoc, xor_lt}
use Rattle.gf_terms.specs.Arithmetic.{product, power}
use Rattle.gf_terms.proofs.Linear.{plus_product, zero_product}
use Rattle.gf_terms.proofs.Field.{closed, product_comm, product_assoc, one_product, power_below}
use Rattle.code_terms.specs.Symbols.{coefficient, symbol_of}

-- the value at x of the n coefficients of u from j on: those behind the first times x, and the first
unfoldable pub nested : (m u x j n : ℕ) → ℕ
nested m u x j zero = 0
nested m u x j (suc n) = bit_xor (product m (nested m u x (j + 1) n) x) (coefficient m u j)

pub nested-none : (m u x j n : ℕ) → n ≡ 0 → nested m u x j n ≡ 0
unfolding nested
nested-none m u x j n is = ap (nested m u x j) is

-- one coefficient more
pub nested-more : (m u x j n : ℕ) → 0 < j → nested m u x (j - 1) (n + 1) ≡ bit_xor (product m (nested m u x j n) x) (coefficient m u (j - 1))
unfolding nested
nested-more m u x j n some = let on : n + 1 ≡ suc n = omega arith in let back : j - 1 + 1 ≡ j = omega arith in
    ap (nested m u x (j - 1)) on ∙ ap (λ i. bit_xor (product m (nested m u x i n) x) (coefficient m u (j - 1))) back

-- the same as a sum of coefficients times powers
unfoldable pub sum_from : (m u x j n : ℕ) → ℕ
sum_from m u x j zero = 0
sum_from m u x j (suc n) = bit_xor (sum_from m u x j n) (product m (coefficient m u (j + n)) (power m x n))

swap_last : (a b c : ℕ) → bit_xor (bit_xor a b) c ≡ bit_xor (bit_xor a c) b
swap_last a b c = xor_assoc a b c ∙ ap (bit_xor a) (xor_comm b c) ∙ sym (xor_assoc a c b)

-- a coefficient is a symbol
pub coefficient_below : (m u j : ℕ) → coefficient m u j < 2 ^ m
coefficient_below m u j = let some : 0 < 2 ^ m = pow_pos m in omega arith

module _ (m : ℕ) (low : 4 ≤ m) (high : m ≤ 8) where
  one_below : 1 < 2 ^ m
  one_below = omega (arith, pow_below 0 m (omega arith))

  -- a term of the sum, one power up
  term_up : (c p x : ℕ) → c < 2 ^ m → p < 2 ^ m → x < 2 ^ m → product m c (product m x p) ≡ product m (product m c p) x
  term_up c p x cs ps xs = ap (product m c) (product_comm m low high x p xs ps) ∙ sym (product_assoc m low high c p x cs ps xs)

  -- the sum without its first term is the sum of the coefficients behind, times x
  sum_from-first : (u x j n : ℕ) → x < 2 ^ m → sum_from m u x j (suc n) ≡ bit_xor (product m (sum_from m u x (j + 1) n) x) (coefficient m u j)
  unfolding sum_from power
  sum_from-first u x j zero xs =
      ap (λ i. product m (coefficient m u i) 1) (add-zero j)
      ∙ product_comm m low high (coefficient m u j) 1 (coefficient_below m u j) one_below
      ∙ one_product m low high (coefficient m u j) (coefficient_below m u j)
      ∙ sym (ap (λ v. bit_xor v (coefficient m u j)) (zero_product m x) ∙ xor_zero_l (coefficient m u j))
  sum_from-first u x j (suc n) xs =
      let c : ℕ = coefficient m u (j + suc n) in
      let at : coefficient m u (j + 1 + n) ≡ c = ap (coefficient m u) (omega arith) in
      let up : product m c (product m x (power m x n)) ≡ product m (product m c (power m x n)) x =
      term_up c (power m x n) x (coefficient_below m u (j + suc n)) (power_below m low high x n xs) xs in
      ap₂ bit_xor (sum_from-first u x j n xs) up
      ∙ swap_last (product m (sum_from m u x (j + 1) n) x) (coefficient m u j) (product m (product m c (power m x n)) x)
      ∙ ap (λ v. bit_xor v (coefficient m u j))
      (sym (plus_product m (sum_from m u x (j + 1) n) (product m c (power m x n)) x)
      ∙ ap (λ d. product m (bit_xor (sum_from m u x (j + 1) n) (product m d (power m x n))) x) (sym at))

  -- both are one
  pub nested-sum_from : (u x j n : ℕ) → x < 2 ^ m → nested m u x j n ≡ sum_from m u x j n
  unfolding nested sum_from
  nested-sum_from u x j zero xs = refl
  nested-sum_from u x j (suc n) xs = ap (λ v. bit_xor (product m v x) (coefficient m u j)) (nested-sum_from u x (j + 1) n xs) ∙ sym (sum_from-first u x j n xs)

  symbol_of-sum_from : (u x n : ℕ) → sum_from m u x 0 n ≡ symbol_of m n u x
  unfolding sum_from symbol_of
  symbol_of-sum_from u x zero = refl
  symbol_of-sum_from u x (suc n) =
      ap₂ bit_xor (symbol_of-sum_from u x n) (ap (λ i. product m (coefficient m u i) (power m x n)) (zero-add n))

  -- nested products give the symbol
  pub nested-symbol_of : (u x k : ℕ) → x < 2 ^ m → nested m u x 0 k ≡ symbol_of m k u x
  nested-symbol_of u x k xs = nested-sum_from u x 0 k xs ∙ symbol_of-sum_from u x k

  -- a symbol is a number below 2^m
  pub symbol_of-below : (u x k : ℕ) → x < 2 ^ m → symbol_of m k u x < 2 ^ m
  unfolding symbol_of
  symbol_of-below u x zero xs = pow_pos m
  symbol_of-below u x (suc k) xs =
      xor_lt m (symbol_of m k u x) (product m (coefficient m u k) (power m x k)) (symbol_of-below u x k xs)
      (closed m low high (coefficient m u k) (power m x k) (coefficient_below m u k) (power_below m low high x k xs))
