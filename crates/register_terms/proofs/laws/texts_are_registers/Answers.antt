use Rattle.register_terms.proofs.Texts.{written_is_read, read_was_written}
use Rattle.register_terms.proofs.laws.texts_are_registers.Goals as goal

pub returns : goal.returns
returns c =
    λ bytes e. ((λ is. let text = read_was_written bytes e is in (text.valid, text.text)), (λ is. written_is_read bytes e is.0 is.1))
