-- The symbols of a codeword: the values of the message's polynomial over GF(2^m).
-- Source: I. S. Reed and G. Solomon, Polynomial codes over certain finite fields, J. SIAM 8 (1960). That place i has
-- the element of number i for its point, and how a number is cut into coefficients, is this project's own.
use Rattle.std.specs.Prelude.{ℕ, zero, suc, ◌+◌, ◌*◌, ◌/◌, ◌%◌, ◌^◌, List, [], ◌∷◌, bit_xor}
use Rattle.gf_terms.specs.Arithmetic.{product, power}

-- the coefficient at x^j of the message u: its bits mj to mj + m - 1
abbrev pub coefficient : ℕ → ℕ → ℕ → ℕ
coefficient m u j = (u / 2 ^ (m * j)) % 2 ^ m

-- the symbol of the message u at place i: the sum of coefficient j times i^j, over the j below k, where 0^0 is 1
unfoldable pub symbol_of : ℕ → ℕ → ℕ → ℕ → ℕ
symbol_of m zero u i = 0
symbol_of m (suc j) u i = bit_xor (symbol_of m j u i) (product m (coefficient m u j) (power m i j))

-- the message with these coefficients, of which the first is that at x^0
unfoldable pub packed : ℕ → List ℕ → ℕ
packed m [] = 0
packed m (c ∷ cs) = c + 2 ^ m * packed m cs
