use Rattle.std.proofs.Common.{◌≡◌, ◌⊎◌, Option, Some, None, IfSome}
use Rattle.outcome_terms.specs.declared.status.Status.{Status}
use Rattle.outcome_terms.specs.declared.status.Status.TheVariants as status
use Rattle.outcome_terms.specs.declared.refusal.Refusal.{Refusal}
use Rattle.outcome_terms.specs.Statuses.{refusal_status}
use Rattle.records.specs.Stores.{Store}
use Rattle.outcome_terms.specs.Call.{IsRefused}
use Rattle.trace_cli.proofs.counted.Goals as goal

-- what the words refuse, without what is said of the store
status_alone : (o : Option Refusal) (s : Status) (old new : Store) → IfSome o (λ e. IsRefused e s old new) → IfSome o (λ e. (s ≡ refusal_status e) ⊎ (s ≡ status.Memory))
status_alone None s old new h = tt
status_alone (Some e) s old new h = h.ends

pub returns : goal.returns
returns g c = record {
  refused = status_alone _ _ _ _ c.run.ensures.refused;
  row = c.run.ensures.row;
  read_fault = λ is. (_, c.run.ensures.so_far.reads is);
  write_fault = λ is. c.run.ensures.so_far.writes is;
}
