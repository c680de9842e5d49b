-- How many elements a field has.
use Rattle.std.proofs.Common.{◌≡◌, ℕ, ◌^◌, ◌<◌, ◌≤◌, arith}
use Rattle.std.proofs.lemmas.Nat.{pow_pos}
use Rattle.std.proofs.Math.Pow.{pow_mono}

pub some_elements : (m q : ℕ) → q ≡ 2 ^ m → 0 < q
some_elements m q size = omega (arith, pow_pos m)

pub most_elements : (m q : ℕ) → q ≡ 2 ^ m → m ≤ 8 → q ≤ 256
most_elements m q size high = let below : 2 ^ m ≤ 2 ^ 8 = pow_mono high in omega arith
