use Rattle.code_terms.proofs.WordLength.{word_of-length}
use Rattle.trace_commands.proofs.Symbols.{word_symbols}
use Rattle.trace_commands.proofs.word.word_of_bytes.Goals as goal

pub returns-in-Ok-clause-least : goal.returns-in-Ok-clause-least
returns-in-Ok-clause-least c = (word_of-length c.args.m c.as_slice.result.now c.in-Ok.word c.in-Ok.ensures).least

pub returns-in-Ok-clause-most : goal.returns-in-Ok-clause-most
returns-in-Ok-clause-most c = (word_of-length c.args.m c.as_slice.result.now c.in-Ok.word c.in-Ok.ensures).most

pub returns-in-Ok-clause-symbols : goal.returns-in-Ok-clause-symbols
returns-in-Ok-clause-symbols c = word_symbols c.args.m c.as_slice.result.now c.in-Ok.word c.in-Ok.ensures
