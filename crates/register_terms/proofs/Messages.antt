-- In a valid register the messages of different serials differ, since an odd number has no factor in common with 2^n.
use Rattle.std.proofs.Common.{◌≡◌, ◌≢◌, ℕ, zero, suc, ◌+◌, ◌-◌, ◌*◌, ◌/◌, ◌%◌, ◌^◌, ◌<◌, length, sym, ap, ◌∙◌, arith, inl, inr}
use Rattle.std.proofs.Math.Nat.{div-add-mod, mul-sub, mul-add, add-mul, mul_assoc, two-pow-succ, min-le_left}
use Rattle.std.proofs.lemmas.Bool.{cases_order}
use Rattle.register_terms.specs.Enrolment.{Enrolment, IsValid, message_count, message_of}

-- a number that is so many times another
record IsTimes (n d : ℕ) : Type 0 where
  by : ℕ
  is : d ≡ n * by

-- where 2^n divides an odd number times d, it divides d
odd_free : (n a d q : ℕ) → a % 2 ≡ 1 → a * d ≡ 2 ^ n * q → IsTimes (2 ^ n) d
odd_free zero a d q odd is = record { by = d; is = omega arith }
odd_free (suc n) a d q odd is =
    let half : ℕ = a / 2 in
    let double : ℕ = d / 2 in
    let power : ℕ = 2 ^ n in
    let a_is : a ≡ 2 * half + 1 = omega arith in
    let product : a * d ≡ 2 * (half * d) + d = ap (λ x. x * d) a_is ∙ add-mul (2 * half) 1 d ∙ omega (arith, mul_assoc 2 half d) in
    let even : a * d ≡ power * q + power * q = is ∙ ap (λ p. p * q) (two-pow-succ n) ∙ add-mul power power q in
    let d_is : d ≡ double + double = omega arith in
    let twice : a * d ≡ a * double + a * double = ap (λ x. a * x) d_is ∙ mul-add a double double in
    let halved : a * double ≡ power * q = omega arith in
    let rest = odd_free n a double q odd halved in
    let by : ℕ = rest.by in
    let double_is : double ≡ power * by = rest.is in
    record { by = by; is = d_is ∙ ap (λ x. x + x) double_is ∙ sym (add-mul power power by) ∙ ap (λ p. p * by) (sym (two-pow-succ n)) }

-- two numbers with the same remainder
same_remainder : (n x y : ℕ) → x % n ≡ y % n → y - x ≡ n * (y / n - x / n)
same_remainder n x y same =
    let x_is = div-add-mod x n in
    let y_is = div-add-mod y n in
    let parts = mul-sub n (y / n) (x / n) in
    omega (arith, x_is, y_is, same, parts)

-- so many times a number that is not 0 is no smaller
small_times : (n d by : ℕ) → d ≡ n * by → d < n → d ≡ 0
small_times n d zero is small = omega arith
small_times n d (suc by) is small =
    let more : n * suc by ≡ n * by + n = omega arith in
    absurd (omega arith)

-- an odd number of steps of a serial reaches no message twice
ordered_differ : (n a b i j : ℕ) → a % 2 ≡ 1 → i < j → j < 2 ^ n → (a * i + b) % 2 ^ n ≢ (a * j + b) % 2 ^ n
ordered_differ n a b i j odd lt below =
    λ same.
    let d : ℕ = j - i in
    let difference = same_remainder (2 ^ n) (a * i + b) (a * j + b) same in
    let product : a * d ≡ a * j - a * i = mul-sub a j i in
    let times : a * d ≡ 2 ^ n * ((a * j + b) / 2 ^ n - (a * i + b) / 2 ^ n) = omega arith in
    let by = odd_free n a d ((a * j + b) / 2 ^ n - (a * i + b) / 2 ^ n) odd times in
    let none : d ≡ 0 = small_times (2 ^ n) d by.by by.is (omega arith) in
    omega arith

pub messages_differ : (e : Enrolment) → IsValid e → (i j : ℕ) → i < message_count e → j < message_count e → message_of e i ≡ message_of e j → i ≡ j
messages_differ e valid i j i_below j_below same =
    elim (cases_order i j) [
      | inl equal ↦ equal
      | inr apart ↦ elim apart [
        | inl lt ↦ absurd (ordered_differ (e.bits * e.dimension) e.multiplier e.shift i j valid.odd lt j_below same)
        | inr gt ↦ absurd (ordered_differ (e.bits * e.dimension) e.multiplier e.shift j i valid.odd gt i_below (sym same))
      ]
    ]

-- each enrolled serial is below the number of messages
pub enrolled-below : (e : Enrolment) → IsValid e → (serial : ℕ) → serial < length e.licensees → serial < message_count e
enrolled-below e valid serial lt = omega (arith, valid.room, min-le_left (message_count e) 200000)
