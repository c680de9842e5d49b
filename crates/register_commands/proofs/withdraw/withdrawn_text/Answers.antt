use Rattle.std.proofs.Common.{◌≡◌, ◌∙◌, true, Ok, sym, ap}
use Rattle.std.specs.Prelude.{not}
use Rattle.std.specs.Str.{bytes_eq}
use Rattle.outcome_terms.specs.WithdrawCommand.{withdraw}
use Rattle.outcome_terms.specs.Reading.{Give}
use Rattle.outcome_terms.specs.Stores.{Exactly}
use Rattle.outcome_terms.proofs.Readings.{goes_on, met_on, settled, settled_on}
use Rattle.register_commands.proofs.withdraw.withdrawn_text.Goals as goal

pub returns : goal.returns
unfolding withdraw
returns g c =
    let apart : not (bytes_eq c.args.out.now c.args.register.now) ≡ true = ap not (sym c.eq.ensures ∙ c.if-eq.false) in
    met_on _ _ _ apart (goes_on _ c.in_ok-register.ensures (settled_on _ _ c.in_ok-withdraw.ensures
    (settled _ _ (Ok _) (ap (λ text. Give (Exactly text)) (sym c.in_ok-write.ensures.text)))))
