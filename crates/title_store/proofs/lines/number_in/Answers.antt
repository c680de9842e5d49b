use Rattle.line_reader.proofs.NoTexts.{no_text_no_number}
use Rattle.title_store.proofs.lines.number_in.Goals as goal

pub returns-in-Err : goal.returns-in-Err
returns-in-Err c = no_text_no_number c.args.bytes.now c.in-Err.ensures.cases.0
