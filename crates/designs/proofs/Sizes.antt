-- How many symbols there are.
use Rattle.std.proofs.Common.{◌≡◌, ℕ, ◌*◌, ◌%◌, ◌^◌, ◌<◌, ◌≤◌, arith}
use Rattle.std.proofs.Math.Pow.{pow_mono}
use Rattle.std.proofs.Math.Nat.{mod-eq_of_lt}

pub symbol_count-low : (m : ℕ) → 4 ≤ m → m ≤ 8 → 16 ≤ 1 * 2 ^ m % 4294967296
symbol_count-low m low high =
    let least : 2 ^ 4 ≤ 2 ^ m = pow_mono low in
    let most : 2 ^ m ≤ 2 ^ 8 = pow_mono high in
    let one : 1 * 2 ^ m ≡ 2 ^ m = omega arith in
    let within : 1 * 2 ^ m < 4294967296 = omega (arith, one, most) in
    let whole : 1 * 2 ^ m % 4294967296 ≡ 1 * 2 ^ m = mod-eq_of_lt within in
    omega (arith, least, one, whole)
