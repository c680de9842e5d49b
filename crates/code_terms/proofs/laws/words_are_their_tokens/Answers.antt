use Rattle.code_terms.proofs.Faults.{is_word, is_broken, is_overlong}
use Rattle.code_terms.proofs.laws.words_are_their_tokens.Goals as goal

pub returns : goal.returns
returns c = record { word = is_word; token = is_broken; long = is_overlong }
