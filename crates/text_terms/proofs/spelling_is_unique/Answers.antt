use Rattle.text_terms.proofs.NumberLaws.{number_of-decimal, spelling_of, number_below}
use Rattle.text_terms.proofs.spelling_is_unique.Goals as goal

pub returns : goal.returns
returns c = record { read = number_of-decimal; written = spelling_of; below = number_below }
