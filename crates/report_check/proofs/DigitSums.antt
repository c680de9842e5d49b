-- The symbols of a message from those of its digits to the base 16.
use Rattle.std.proofs.Common.{◌≡◌, ℕ, zero, suc, ◌+◌, ◌*◌, ◌/◌, ◌%◌, ◌^◌, ◌<◌, ◌≤◌, List, [], get_or, refl, sym, ap, ap₂, ◌∙◌, arith}
use Rattle.std.specs.Prelude.{bit_xor}
use Rattle.std.proofs.Math.Nat.{mod-le, mod-eq_of_lt}
use Rattle.std.proofs.Math.Pow.{pow_mono}
use Rattle.std.proofs.lemmas.Nat.{pow_pos, xor_mod, mod-pow-add}
use lib.Bits.{xor_comm, xor_self, xor_shifted, xor_shr}
use Rattle.gf_terms.specs.Arithmetic.{product, power}
use Rattle.gf_terms.proofs.Linear.{plus_product, xor_middle}
use Rattle.code_terms.specs.Symbols.{coefficient, symbol_of}
use Rattle.report_check.specs.Shown.{HasSymbols, message_of_row, AreRows}

-- ---- symbols are linear

coefficient-sum : (m u v j : ℕ) → coefficient m (bit_xor u v) j ≡ bit_xor (coefficient m u j) (coefficient m v j)
coefficient-sum m u v j = ap (λ t. t % 2 ^ m) (xor_shr u v (m * j)) ∙ xor_mod (u / 2 ^ (m * j)) (v / 2 ^ (m * j)) m

pub symbol_of-sum : (m k u v i : ℕ) → symbol_of m k (bit_xor u v) i ≡ bit_xor (symbol_of m k u i) (symbol_of m k v i)
unfolding symbol_of
symbol_of-sum m zero u v i = refl
symbol_of-sum m (suc j) u v i =
    ap₂ bit_xor (symbol_of-sum m j u v i)
    (ap (λ t. product m t (power m i j)) (coefficient-sum m u v j) ∙ plus_product m (coefficient m u j) (coefficient m v j) (power m i j))
    ∙ xor_middle (symbol_of m j u i) (symbol_of m j v i) (product m (coefficient m u j) (power m i j)) (product m (coefficient m v j) (power m i j))

symbol_of-zero : (m k i : ℕ) → symbol_of m k 0 i ≡ 0
symbol_of-zero m k i = symbol_of-sum m k 0 0 i ∙ xor_self (symbol_of m k 0 i)

-- ---- a number and its digits

-- the digit behind which q others stand, with zeros in place of these
abbrev digit_of : ℕ → ℕ → ℕ
digit_of u q = u / 2 ^ (4 * q) % 16

next_digit : (u q : ℕ) → digit_of u q * 2 ^ (4 * q) + u % 2 ^ (4 * q) ≡ u % 2 ^ (4 * (q + 1))
next_digit u q =
    let on : 4 + 4 * q ≡ 4 * (q + 1) = omega arith in
    sym (mod-pow-add u 4 (4 * q)) ∙ ap (λ t. u % 2 ^ t) on

digit_more : (u q : ℕ) → bit_xor (u % 2 ^ (4 * q)) (digit_of u q * 2 ^ (4 * q)) ≡ u % 2 ^ (4 * (q + 1))
digit_more u q =
    let some : 0 < 2 ^ (4 * q) = pow_pos (4 * q) in
    let low : u % 2 ^ (4 * q) < 2 ^ (4 * q) = omega arith in
    xor_comm (u % 2 ^ (4 * q)) (digit_of u q * 2 ^ (4 * q)) ∙ xor_shifted (digit_of u q) (4 * q) (u % 2 ^ (4 * q)) low ∙ next_digit u q

digit_small : (u q : ℕ) → digit_of u q * 2 ^ (4 * q) ≤ u
digit_small u q = omega (arith, next_digit u q, mod-le u (2 ^ (4 * (q + 1))))

row_of_digit : (q d : ℕ) → d < 16 → message_of_row (16 * q + d) ≡ d * 2 ^ (4 * q)
row_of_digit q d h =
    let low : (16 * q + d) % 16 ≡ d = omega arith in
    let high : (16 * q + d) / 16 ≡ q = omega arith in
    ap₂ (λ s t. s * 2 ^ (4 * t)) low high

module _ (m k n : ℕ) where
  -- without digits there is only the message 0
  pub no_digits : (u : ℕ) (symbols : List ℕ) → ((place : ℕ) → place < n → get_or symbols place 0 ≡ 0) → HasSymbols m k (u % 2 ^ (4 * 0)) n symbols
  no_digits u symbols zeros place within =
      let none : u % 2 ^ (4 * 0) ≡ 0 = omega arith in
      zeros place within ∙ sym (ap (λ t. symbol_of m k t place) none ∙ symbol_of-zero m k place)

  -- one digit more, whose row is added
  pub one_digit_more : (digits u q : ℕ) (rows : List (List ℕ)) (symbols sums : List ℕ) → AreRows m k n digits rows → n ≤ 256 → u < 2 ^ (m * k) → q < digits → HasSymbols m k (u % 2 ^ (4 * q)) n symbols
      → ((place : ℕ) → place < 256 → get_or sums place 0 ≡ bit_xor (get_or symbols place 0) (get_or (get_or rows (16 * q + digit_of u q) []) place 0))
      → HasSymbols m k (u % 2 ^ (4 * (q + 1))) n sums
  one_digit_more digits u q rows symbols sums are short small inside has added place within =
      let d : ℕ = digit_of u q in
      let digit : d < 16 = omega arith in
      let is = row_of_digit q d digit in
      let below : message_of_row (16 * q + d) < 2 ^ (m * k) = omega (arith, is, digit_small u q, small) in
      let row : get_or (get_or rows (16 * q + d) []) place 0 ≡ symbol_of m k (message_of_row (16 * q + d)) place = are.each (16 * q + d) (omega arith) below place within in
      added place (omega arith)
      ∙ ap₂ bit_xor (has place within) (row ∙ ap (λ t. symbol_of m k t place) is)
      ∙ sym (symbol_of-sum m k (u % 2 ^ (4 * q)) (d * 2 ^ (4 * q)) place)
      ∙ ap (λ t. symbol_of m k t place) (digit_more u q)

  -- with all its digits it is the message
  pub all_digits : (digits u q : ℕ) (rows : List (List ℕ)) (symbols : List ℕ) → AreRows m k n digits rows → u < 2 ^ (m * k) → digits ≤ q → HasSymbols m k (u % 2 ^ (4 * q)) n symbols → HasSymbols m k u n symbols
  all_digits digits u q rows symbols are small over has place within =
      let bits : m * k ≤ 4 * q = omega (arith, are.whole, over) in
      let wide : 2 ^ (m * k) ≤ 2 ^ (4 * q) = pow_mono bits in
      let below : u < 2 ^ (4 * q) = omega arith in
      has place within ∙ ap (λ t. symbol_of m k t place) (mod-eq_of_lt below)
