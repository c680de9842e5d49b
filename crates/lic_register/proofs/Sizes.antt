-- Bounds on the numbers of a valid register.
use Rattle.std.proofs.Common.{ℕ, ◌*◌, ◌^◌, ◌<◌, ◌≤◌, length, arith}
use Rattle.std.proofs.Math.Pow.{pow_mono}
use Rattle.std.proofs.Math.Nat.{mul-le-mul, min-le_right}
use Rattle.register_terms.specs.Enrolment.{Enrolment, IsValid, message_count}

-- a message has at most 104 bits
pub message_count-le : (e : Enrolment) → IsValid e → message_count e ≤ 2 ^ 104
message_count-le e valid = pow_mono (mul-le-mul valid.bits_high valid.dimension_high)

-- a product of the multiplier and an enrolled serial
pub product-le : (e : Enrolment) → IsValid e → (serial : ℕ) → serial < length e.licensees → e.multiplier * serial ≤ 2 ^ 104 * 200000
product-le e valid serial lt =
    let few : e.multiplier ≤ 2 ^ 104 = omega (arith, valid.multiplier_below, message_count-le e valid) in
    let enrolled : serial ≤ 200000 = omega (arith, valid.room, min-le_right (message_count e) 200000) in
    mul-le-mul few enrolled
