use Rattle.std.proofs.Common.{refl}
use Rattle.hex.specs.Hex.{decode_pairs}
use Rattle.title_terms.specs.Pair.{pair_digests}
use Rattle.copy_terms.specs.Copies.{word_of_copy}
use Rattle.copy_terms.proofs.laws.worked_words.Goals as goal

pub returns : goal.returns
unfolding word_of_copy decode_pairs pair_digests
returns c = record { one_each = refl; reversed = refl; repeated = refl; two_symbols = refl; one_place = refl; nothing = refl; something_else = refl }
