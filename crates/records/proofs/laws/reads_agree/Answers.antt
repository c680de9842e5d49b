use Rattle.records.proofs.Agreeing.{whole_is, longer_is, missed_is, reads_keep, whole_agrees}
use Rattle.records.proofs.laws.reads_agree.Goals as goal

pub returns : goal.returns
returns c = record {
  whole = λ name bytes events old new read agrees. whole_is name old bytes events new read agrees;
  longer = λ name limit events old new read agrees. longer_is name old limit events new read agrees;
  missed = λ name events old new read agrees. missed_is name old events new read agrees;
  kept = λ name events old new reads agrees. reads_keep name old events new reads agrees;
  held = λ name bytes events blobs read held. whole_agrees blobs name bytes events read held;
}
