use Rattle.outcome_terms.proofs.AlongLaws.{along_to, along_fails}
use Rattle.outcome_terms.proofs.packaging.readings_go_along.Goals as goal

pub returns : goal.returns
returns c = record {
  goes_on = λ step made so_far more xs i x s t u at first next. along_to step made xs i x so_far more at first next;
  stops = λ step made so_far xs i x e s t u at first next. along_fails step made xs i x so_far e at first next;
}
