use Rattle.outcome_terms.proofs.Supposed.{follows_supposed, read_so, reads_agree}
use Rattle.outcome_terms.proofs.laws.readings_are_supposed.Goals as goal

pub returns : goal.returns
returns c = record {
  followed = λ reading s t answer h. follows_supposed h;
  read = λ reading s t x h. read_so h;
  agree = λ blobs reads events are held. reads_agree blobs are held;
}
