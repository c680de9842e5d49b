use Rattle.std.proofs.Common.{◌≡◌, ℕ, List, Result, true, Vec, Global, sym, subst}
use Rattle.outcome_terms.specs.declared.refusal.Refusal.{Refusal}
use Rattle.outcome_terms.specs.Spending.{traced}
use Rattle.outcome_terms.specs.Stores.{gave, seen}
use Rattle.outcome_terms.specs.TraceCommand.{is_served, trace, trace_trace}
use Rattle.outcome_terms.proofs.Readings.{goes_on, stops, settled, met_on}
use Rattle.copy_io.proofs.MetDemands.{admitted, turned_away, report_at, steps_at}
use Rattle.trace_commands.proofs.trace_command.trace.Goals as goal

pub returns-in-Err-clause-report : goal.returns-in-Err-clause-report
unfolding trace
returns-in-Err-clause-report g c =
    goes_on _ c.in_ok-title.ensures (goes_on _ c.in_ok-register.ensures (turned_away _ c.in_ok-title.title c.in_ok-register.register c.args.c _ c.in-Err.refusal c.in-Err.ensures))

pub returns-in-Err-word_shown-clause-report : goal.returns-in-Err-word_shown-clause-report
unfolding trace
returns-in-Err-word_shown-clause-report g c =
    let demands = admitted c.in_ok-title.title c.in_ok-register.register c.args.c c.in-Ok.bound c.in-Ok.ensures in
    goes_on _ c.in_ok-title.ensures (goes_on _ c.in_ok-register.ensures (met_on _ _ _ demands.same_code (met_on _ _ _ demands.served (stops _ c.in-Err-word_shown.ensures.word))))

pub report-requires : goal.report-requires
report-requires g c =
    let t = c.in_ok-title.title in
    let demands = admitted t c.in_ok-register.register c.args.c c.in-Ok.bound c.in-Ok.ensures in
    record {
      same_code = demands.same_code;
      served = subst (λ (b : ℕ). is_served t b ≡ true) (sym demands.is) demands.served;
      places = c.in-Ok-word_shown.ensures.places;
      symbols = c.in-Ok-word_shown.ensures.symbols;
    }

pub returns : goal.returns
unfolding trace trace_trace
returns g c =
    let t = c.in_ok-title.title in
    let e = c.in_ok-register.register in
    let w = c.in-Ok-word_shown.word in
    let demands = admitted t e c.args.c c.in-Ok.bound c.in-Ok.ensures in
    let answer : Result (List ℕ) Refusal = seen {A = Vec ℕ Global} {B = List ℕ} (λ text. text.items) c.report.result in
    record {
      report = goes_on _ c.in_ok-title.ensures (goes_on _ c.in_ok-register.ensures (met_on _ _ _ demands.same_code (met_on _ _ _ demands.served (goes_on _ c.in-Ok-word_shown.ensures.word
          (settled _ _ _ (report_at answer e w c.in-Ok.bound c.args.c demands.is c.report.ensures.report))))));
      steps = traced (goes_on _ c.in_ok-title.ensures (goes_on _ c.in_ok-register.ensures (met_on _ _ _ demands.same_code (met_on _ _ _ demands.served (goes_on _ c.in-Ok-word_shown.ensures.word gave)))))
          (steps_at _ e.dimension w c.in-Ok.bound c.args.c _ _ demands.is c.report.ensures.steps);
    }
