use Rattle.title_terms.proofs.Texts.{written_is_read, read_was_written}
use Rattle.title_terms.proofs.laws.texts_are_titles.Goals as goal

pub returns : goal.returns
returns c = λ bytes t. ((λ is. let text = read_was_written bytes t is in (text.valid, text.text)), (λ is. written_is_read bytes t is.0 is.1))
