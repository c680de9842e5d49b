use Rattle.std.proofs.Common.{ℕ, List, Err, sym, subst}
use Rattle.outcome_terms.specs.SampleCommand.{sample}
use Rattle.outcome_terms.specs.Stores.{Settles}
use Rattle.sample_commands.proofs.Summaries.{summed_up, not_summed_up}
use Rattle.sample_commands.proofs.sample_command.sample_text.Goals as goal

pub returns-in-Ok-clause-summary : goal.returns-in-Ok-clause-summary
returns-in-Ok-clause-summary g c = summed_up c.args.number c.in-Ok.text c.in-Ok.ensures.answer

pub returns-in-Err-clause-summary : goal.returns-in-Err-clause-summary
returns-in-Err-clause-summary g c =
    subst (λ refusal. Settles {A = List ℕ} (Err refusal) (sample c.args.number)) (sym c.refusal.ensures.refused)
    (not_summed_up c.args.number c.in-Err.error c.refusal.ensures.symbols c.in-Err.ensures.answer)
