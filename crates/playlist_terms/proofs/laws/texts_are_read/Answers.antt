use Rattle.playlist_terms.proofs.Written.{written_is_read}
use Rattle.playlist_terms.proofs.laws.texts_are_read.Goals as goal

pub returns : goal.returns
returns c = written_is_read
