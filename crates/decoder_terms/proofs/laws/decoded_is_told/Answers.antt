use Rattle.decoder_terms.proofs.Decoded.{told}
use Rattle.decoder_terms.proofs.laws.decoded_is_told.Goals as goal

pub returns : goal.returns
returns g = λ m k c word messages up only every. told m k c word messages up only every
