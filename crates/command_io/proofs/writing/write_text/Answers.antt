use Rattle.outcome_terms.specs.Outcome.{wrote, lost}
use Rattle.command_io.proofs.writing.write_text.Goals as goal

pub returns-in-Ok : goal.returns-in-Ok
returns-in-Ok g c = λ reading writing first made is. wrote made is c.in-Ok.ensures

pub returns-in-Err : goal.returns-in-Err
returns-in-Err g c = λ reading writing first made is. lost made is c.in-Err.ensures
