use Rattle.std.proofs.Common.{◌≡◌, ◌+◌, ◌-◌, ◌*◌, ◌%◌, ◌^◌, ◌<◌, ◌∙◌, ap, subst, arith}
use Rattle.register_terms.specs.Enrolment.{Enrolment, message_of}
use Rattle.lic_register.proofs.Sizes.{message_count-le}
use Rattle.lic_register.proofs.Quotients.{has_message}
use Rattle.lic_register.proofs.register.Register.serial_with.Goals as goal

pub overflow_add-rest : goal.overflow_add-rest
overflow_add-rest c = omega (arith, message_count-le _ c.self.invariant, c.message_count-messages.ensures)

pub returns-clause-some : goal.returns-clause-some
returns-clause-some c =
    let small : c.args.message < 2 ^ (c.self.inside.rule.bits * c.self.inside.rule.dimension) = omega (arith, c.message_count-messages.ensures) in
    subst (λ (e : Enrolment). (c.quotient.result < 2 ^ (e.bits * e.dimension)) × (message_of e c.quotient.result ≡ c.args.message)) c.self.view_is (
      c.quotient.ensures.below,
      has_message _ c.self.invariant c.args.message c.quotient.result small
          (c.quotient.ensures.quotient ∙ ap (λ n. (c.args.message + (n - c.self.inside.rule.shift)) % n) c.message_count-messages.ensures),
    )
