use Rattle.packaging_terms.proofs.Made.{stopped_at, twin_is}
use Rattle.packaging_terms.proofs.laws.first_hindrances.Goals as goal

pub returns : goal.returns
returns c = record {
  first = stopped_at;
  before = λ blobs d variant earlier is. (twin_is blobs d variant earlier is).before;
  same = λ blobs d variant earlier is. (twin_is blobs d variant earlier is).same;
}
