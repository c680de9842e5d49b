use Rattle.merge_terms.proofs.Words.{merged_word}
use Rattle.merge_terms.proofs.laws.words_are_merged.Goals as goal

pub returns : goal.returns
returns g = λ roll word c. merged_word roll word c
