-- Binomial coefficients, and which of them are odd.
-- Source: Pascal's rule. That the bits decide is what Lucas's theorem says at the prime two.
use Rattle.std.specs.Prelude.{ℕ, zero, suc, ◌+◌, Bool, ◌==◌, bit_and}

-- in how many ways u of i things can be chosen
unfoldable pub binomial : ℕ → ℕ → ℕ
binomial i zero = 1
binomial zero (suc u) = 0
binomial (suc i) (suc u) = binomial i u + binomial i (suc u)

-- every bit of u is a bit of i
abbrev pub has_bits : ℕ → ℕ → Bool
has_bits i u = bit_and i u == u
