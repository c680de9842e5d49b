-- What a table of powers and one of logarithms hold.
use Rattle.std.specs.Prelude.{◌≡◌, ℕ, ◌+◌, ◌*◌, ◌-◌, ◌^◌, ◌<◌, ◌≤◌, List, length, slice_index}
use Rattle.gf_terms.specs.Arithmetic.{power}

-- the powers of 2 in GF(2^m), twice round, and then zeros
pub record ArePowers (m : ℕ) (table : List ℕ) : Type 0 where
  pub whole : length table ≡ 4 * (2 ^ m - 1) + 1
  pub each : (i : ℕ) → i < 2 * (2 ^ m - 1) → slice_index table i ≡ power m 2 i
  pub zeros : (i : ℕ) → 2 * (2 ^ m - 1) ≤ i → slice_index table i ≡ 0

-- at x, the exponent with which 2 gives x in GF(2^m); at 0, where the zeros begin in the table of powers
pub record AreLogarithms (m : ℕ) (table : List ℕ) : Type 0 where
  pub whole : length table ≡ 2 ^ m
  pub below : (x : ℕ) → 0 < x → x < 2 ^ m → slice_index table x < 2 ^ m - 1
  pub each : (x : ℕ) → 0 < x → x < 2 ^ m → power m 2 (slice_index table x) ≡ x
  pub zero : slice_index table 0 ≡ 2 * (2 ^ m - 1)
  pub most : (x : ℕ) → x < 2 ^ m → slice_index table x ≤ 2 * (2 ^ m - 1)
