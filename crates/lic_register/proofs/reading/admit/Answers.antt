use Rattle.std.proofs.Common.{refl}
use Rattle.line_reader.proofs.NoTexts.{no_text_no_name}
use Rattle.lic_register.proofs.reading.admit.Goals as goal

pub returns-in_default : goal.returns-in_default
returns-in_default c = rw (no_text_no_name c.args.line.now.name.now c.in_default.ensures.cases.0) refl
