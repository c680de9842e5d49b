use Rattle.std.proofs.Common.{arith, refl}
use Rattle.outcome_terms.specs.AccuseCommand.{accuse, accuse_trace}
use Rattle.outcome_terms.specs.Spending.{nothing, traced}
use Rattle.outcome_terms.specs.Stores.{gave}
use Rattle.outcome_terms.proofs.Readings.{reading_rules, goes_on, settled, settled_on}
use Rattle.trace_commands.proofs.accuse_command.accuse.Goals as goal

pub returns-in_err-word : goal.returns-in_err-word
unfolding accuse
returns-in_err-word g c = record {
  report = goes_on _ c.in_ok-register.ensures (settled_on _ _ c.in_ok-bound.ensures.bound (grind (arith, reading_rules)));
  steps = nothing refl;
}

pub returns : goal.returns
unfolding accuse accuse_trace
returns g c = record {
  report = goes_on _ c.in_ok-register.ensures (settled_on _ _ c.in_ok-bound.ensures.bound (goes_on _ c.in_ok-word.ensures.word (settled _ _ _ c.report_on.ensures.report)));
  steps = traced (goes_on _ c.in_ok-register.ensures (settled_on _ _ c.in_ok-bound.ensures.bound (goes_on _ c.in_ok-word.ensures.word gave))) c.report_on.ensures.steps;
}
