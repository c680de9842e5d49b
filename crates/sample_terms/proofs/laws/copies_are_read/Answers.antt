use Rattle.sample_terms.proofs.Reading.{word_is}
use Rattle.sample_terms.proofs.laws.copies_are_read.Goals as goal

pub returns : goal.returns
returns c = word_is
