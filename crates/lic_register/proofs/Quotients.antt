-- Long division from the lowest bit on, and the serial that a message belongs to.
use Rattle.std.proofs.Common.{◌≡◌, ◌≢◌, ℕ, zero, suc, ◌+◌, ◌-◌, ◌*◌, ◌/◌, ◌%◌, ◌^◌, ◌<◌, ◌≤◌, length, sym, ap, ◌∙◌, arith}
use Rattle.std.proofs.Math.Nat.{two-pow-succ, add-mul-mod_self_left, add-mul-mod_self_right, mod-add-mod, mod-eq_of_lt, add-mod_right}
use Rattle.std.proofs.lemmas.Nat.{pow_pos, mod_below}
use Rattle.register_terms.specs.Enrolment.{Enrolment, IsValid, message_count, message_of}
use Rattle.register_terms.proofs.Messages.{messages_differ, enrolled-below}

-- so far: a q + p left leaves the rest, where p is the power of two of the bit that comes next
pub record IsDivided (multiplier messages rest power quotient left : ℕ) : Type 0 where
  pub below : quotient < power
  pub small : left < messages
  pub leaves : (multiplier * quotient + power * left) % messages ≡ rest

pub none_divided : (multiplier messages rest : ℕ) → rest < messages → IsDivided multiplier messages rest 1 0 rest
none_divided multiplier messages rest below = record {
  below = omega arith;
  small = below;
  leaves = let same : multiplier * 0 + 1 * rest ≡ rest = omega arith in ap (λ x. x % messages) same ∙ mod-eq_of_lt below;
}

module _ (multiplier messages rest power quotient left : ℕ) (so_far : IsDivided multiplier messages rest power quotient left) where
  -- a bit that is 0
  pub even_divided : left % 2 ≡ 0 → IsDivided multiplier messages rest (power + power) quotient (left / 2)
  even_divided even =
      let half : ℕ = left / 2 in
      let twice : left ≡ half + half = omega arith in
      let scaled : power * left ≡ power * (half + half) = ap (λ x. power * x) twice in
      let same : multiplier * quotient + (power + power) * half ≡ multiplier * quotient + power * left = omega (arith, scaled) in
      let below = so_far.below in
      let small = so_far.small in
      record { below = omega arith; small = omega arith; leaves = ap (λ x. x % messages) same ∙ so_far.leaves }

  -- a bit that is 1
  pub odd_divided : (sum : ℕ) → sum ≡ left + (messages - multiplier) → multiplier < messages → multiplier % 2 ≡ 1 → messages % 2 ≡ 0 → left % 2 ≡ 1
      → IsDivided multiplier messages rest (power + power) (quotient + power) (sum / 2)
  odd_divided sum is below_all odd even one =
      let gap : ℕ = messages - multiplier in
      let half : ℕ = sum / 2 in
      let whole : messages ≡ multiplier + gap = omega arith in
      let twice : half + half ≡ left + gap = omega arith in
      let scaled : power * (half + half) ≡ power * (left + gap) = ap (λ x. power * x) twice in
      let filled : power * messages ≡ power * (multiplier + gap) = ap (λ x. power * x) whole in
      let same : multiplier * (quotient + power) + (power + power) * half ≡ (multiplier * quotient + power * left) + power * messages = omega (arith, scaled, filled) in
      let below = so_far.below in
      let small = so_far.small in
      record {
        below = omega arith;
        small = omega arith;
        leaves = ap (λ x. x % messages) same ∙ add-mul-mod_self_right (multiplier * quotient + power * left) power messages ∙ so_far.leaves;
      }

-- all bits are done
pub all_divided : (multiplier messages rest quotient left : ℕ) → IsDivided multiplier messages rest messages quotient left → (multiplier * quotient) % messages ≡ rest
all_divided multiplier messages rest quotient left done = sym (add-mul-mod_self_left (multiplier * quotient) messages left) ∙ done.leaves

-- a power of two but the first is even
pub even_power : (bits bit : ℕ) → bit < bits → (2 ^ bits) % 2 ≡ 0
even_power zero bit less = absurd (omega arith)
even_power (suc bits) bit less = let twice = two-pow-succ bits in omega arith

pub next_power : (bit : ℕ) → 2 ^ (bit + 1) ≡ 2 ^ bit + 2 ^ bit
next_power bit = let next : bit + 1 ≡ suc bit = omega arith in ap (λ n. 2 ^ n) next ∙ two-pow-succ bit

-- the serial whose product with the multiplier leaves what the shift leaves of the message
pub has_message : (e : Enrolment) → IsValid e → (message serial : ℕ) → message < message_count e
    → (e.multiplier * serial) % message_count e ≡ (message + (message_count e - e.shift)) % message_count e → message_of e serial ≡ message
has_message e valid message serial small same =
    let n : ℕ = message_count e in
    let shift_below = valid.shift_below in
    let whole : message + (n - e.shift) + e.shift ≡ message + n = omega arith in
    sym (mod-add-mod (e.multiplier * serial) n e.shift)
    ∙ ap (λ x. (x + e.shift) % n) same
    ∙ mod-add-mod (message + (n - e.shift)) n e.shift
    ∙ ap (λ x. x % n) whole
    ∙ add-mod_right message n
    ∙ mod-eq_of_lt small

-- nobody has a number that is no message
pub no_message : (e : Enrolment) (message serial : ℕ) → message_count e ≤ message → message_of e serial ≢ message
no_message e message serial large =
    λ same.
    let below = mod_below (e.multiplier * serial + e.shift) (message_count e) (pow_pos (e.bits * e.dimension)) in
    omega arith

-- a serial past the last has a message that nobody has
pub not_enrolled : (e : Enrolment) → IsValid e → (message serial : ℕ) → serial < message_count e → message_of e serial ≡ message → length e.licensees ≤ serial
    → (other : ℕ) → other < length e.licensees → message_of e other ≢ message
not_enrolled e valid message serial small has past other enrolled =
    λ same.
    let found : other ≡ serial = messages_differ e valid other serial (enrolled-below e valid other enrolled) small (same ∙ sym has) in
    omega arith
