use Rattle.code_terms.proofs.SlotLaws.{word_of-short, word_of-symbols}
use Rattle.code_terms.proofs.laws.texts_spell_words.Goals as goal

pub returns : goal.returns
returns c = record { places = word_of-short; symbols = word_of-symbols }
