use Rattle.std.proofs.Common.{◌≡◌, ◌∙◌, Ok, Err, sym, ap, subst}
use Rattle.outcome_terms.specs.declared.fault.Fault.TheVariants.{Unknown, Withdrawn}
use Rattle.outcome_terms.specs.Reading.{Give, Refuse}
use Rattle.lic_register.specs.declared.errors.WithdrawError.TheVariants as errors
use Rattle.lic_register.specs.Answers.{withdrawal_of}
use Rattle.register_commands.proofs.Withdrawals.{reads_ok, reads_unknown, reads_already}
use Rattle.register_commands.proofs.withdraw.withdraw.Goals as goal

pub returns-in-Ok : goal.returns-in-Ok
returns-in-Ok g c =
    reads_ok c.args.register.now c.args.name.now c.in-Ok.field-0 (sym c.in-Ok.ensures.answer) ∙ ap Give (sym c.in-Ok.ensures.withdrawn)

pub returns-in_ok-of-in-Err-Unknown : goal.returns-in_ok-of-in-Err-Unknown
returns-in_ok-of-in-Err-Unknown g c =
    let answer = subst (λ e. Err e ≡ withdrawal_of c.args.register.now c.args.name.now) c.in-Err-Unknown.field-0-is c.in-Err-Unknown.ensures.answer in
    reads_unknown c.args.register.now c.args.name.now (sym answer) ∙ ap (λ name. Refuse (Unknown name)) (sym c.in_ok-of-in-Err-Unknown.ensures)

pub returns-in_ok-of-in-Err-Already : goal.returns-in_ok-of-in-Err-Already
returns-in_ok-of-in-Err-Already g c =
    let answer = subst (λ e. Err e ≡ withdrawal_of c.args.register.now c.args.name.now) c.in-Err-Already.field-0-is c.in-Err-Already.ensures.answer in
    reads_already c.args.register.now c.args.name.now c.in-Err-Already.field-0-0 (sym answer) ∙ ap (λ name. Refuse (Withdrawn name)) (sym c.in_ok-of-in-Err-Already.ensures)
