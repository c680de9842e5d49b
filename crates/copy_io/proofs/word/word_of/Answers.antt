use Rattle.copy_io.proofs.Wants.{memory_instead}
use Rattle.copy_io.proofs.word.word_of.Goals as goal

pub returns-in-Err-named_refusal-clause-word : goal.returns-in-Err-named_refusal-clause-word
returns-in-Err-named_refusal-clause-word g c = memory_instead c.in-Err.ensures.reading
