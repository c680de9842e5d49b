use Rattle.std.proofs.Common.{rules, ◌∙◌, arith}
use Rattle.lic_register.proofs.Quotients.{not_enrolled}
use Rattle.lic_register.proofs.register.Register.by_message.Goals as goal

pub returns-then-serial-from-clause-none : goal.returns-then-serial-from-clause-none
returns-then-serial-from-clause-none g c =
    λ none. not_enrolled c.args.self.now c.len-enrolled.ensures.valid c.args.message c.in_ok-serial.serial c.in_ok-serial.ensures.some.0 (c.in_ok-serial.ensures.some.1 ∙ c.number.ensures)
    (omega (arith, c.len-enrolled.ensures.number, c.from.ensures, c.if-serial-from.true))

pub returns-clause-some : goal.returns-clause-some
returns-clause-some g c = (c.in_ok-serial.ensures.some.1 ∙ c.number.ensures, search rules)
