use Rattle.std.proofs.Common.{◌≡◌, ◌≤◌, ◌-◌, ◌+◌, ◌^◌, ◌/◌, sym, ◌∙◌, ap, subst, arith}
use Rattle.std.proofs.Math.Pow.{pow_mono}
use Rattle.std.proofs.lemmas.Nat.{one_shl}
use Rattle.lic_register.proofs.Quotients.{IsDivided, even_divided, odd_divided, even_power, next_power, all_divided}
use Rattle.lic_register.proofs.finding.quotient.Goals as goal
use Rattle.lic_register.proofs.finding.quotient.Goals.{then-left-eq1, else-left-eq1}

pub overflow_add-quotient : goal.overflow_add-quotient
overflow_add-quotient c =
    let few : c.bits.bit ≤ 104 = omega (arith, c.requires.few) in
    let power : 2 ^ c.bits.bit ≤ 2 ^ 104 = pow_mono few in
    omega (arith, one_shl c.bits.bit 128 (omega (arith, c.requires.few)), power, c.bits.invariant.below)

pub overflow_add-left : goal.overflow_add-left
overflow_add-left c =
    let power : 2 ^ c.args.bits ≤ 2 ^ 104 = pow_mono c.requires.few in
    omega (arith, one_shl c.args.bits 128 (omega (arith, c.requires.few)), power, c.bits.invariant.small)

pub bits-preserved : goal.bits-preserved
bits-preserved c =
    let bit_power = one_shl c.bits.bit 128 (omega (arith, c.requires.few)) in
    let messages = one_shl c.args.bits 128 (omega (arith, c.requires.few)) in
    subst (λ p. IsDivided c.args.multiplier (2 ^ c.args.bits) c.args.rest p c.if-left-eq1.quotient (c.if-left-eq1.left / 2)) (sym (next_power c.bits.bit))
    (elim c.if-left-eq1.branch [
      | then-left-eq1 w ↦
          subst (λ q. IsDivided c.args.multiplier (2 ^ c.args.bits) c.args.rest (2 ^ c.bits.bit + 2 ^ c.bits.bit) q (c.if-left-eq1.left / 2)) (sym (w.quotient-is ∙ ap (λ p. c.bits.quotient + p) bit_power))
          (odd_divided c.args.multiplier (2 ^ c.args.bits) c.args.rest (2 ^ c.bits.bit) c.bits.quotient c.bits.left c.bits.invariant c.if-left-eq1.left
          (w.left-is ∙ ap (λ n. c.bits.left + (n - c.args.multiplier)) messages) c.requires.multiplier c.requires.odd (even_power c.args.bits c.bits.bit (omega arith)) (omega (arith, w.if-left-eq1)))
      | else-left-eq1 w ↦
          subst (λ q. IsDivided c.args.multiplier (2 ^ c.args.bits) c.args.rest (2 ^ c.bits.bit + 2 ^ c.bits.bit) q (c.if-left-eq1.left / 2)) (sym w.quotient-is)
          (subst (λ l. IsDivided c.args.multiplier (2 ^ c.args.bits) c.args.rest (2 ^ c.bits.bit + 2 ^ c.bits.bit) c.bits.quotient (l / 2)) (sym w.left-is)
          (even_divided c.args.multiplier (2 ^ c.args.bits) c.args.rest (2 ^ c.bits.bit) c.bits.quotient c.bits.left c.bits.invariant (omega (arith, w.if-left-eq1))))
    ])

pub returns-clause-quotient : goal.returns-clause-quotient
returns-clause-quotient c =
    let done : c.bits.bit ≡ c.args.bits = omega arith in
    all_divided c.args.multiplier (2 ^ c.args.bits) c.args.rest c.bits.quotient c.bits.left
    (subst (λ n. IsDivided c.args.multiplier (2 ^ c.args.bits) c.args.rest (2 ^ n) c.bits.quotient c.bits.left) done c.bits.invariant)
