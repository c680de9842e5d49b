use Rattle.outcome_terms.proofs.Readings.{goes_on, stops}
use Rattle.outcome_terms.proofs.Following.{kept, decided}
use Rattle.outcome_terms.proofs.laws.readings_compose.Goals as goal

pub returns : goal.returns
returns c = record {
  goes_on = λ reading f s t u x answer first next. goes_on f first next;
  stops = λ reading f s t e first. stops f first;
  keeps = λ reading s t answer h. kept h;
  decided = λ reading s t answer blobs is h. decided blobs is h;
}
