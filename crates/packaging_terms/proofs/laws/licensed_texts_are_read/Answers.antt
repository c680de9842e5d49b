use Rattle.playlist_terms.proofs.Written.{written_is_read}
use Rattle.packaging_terms.specs.Licensees.{licensed_list}
use Rattle.packaging_terms.proofs.Lists.{licensable, licensed_valid}
use Rattle.packaging_terms.proofs.laws.licensed_texts_are_read.Goals as goal

pub returns : goal.returns
returns c = λ t e serial valid fit. written_is_read (licensed_list t e serial) (licensed_valid t e serial (licensable t e valid fit))
