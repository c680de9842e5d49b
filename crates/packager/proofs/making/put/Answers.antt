use Rattle.packager.proofs.Begun.{was_put, was_same}
use Rattle.packager.proofs.making.put.Goals as goal

pub returns-in-Ok : goal.returns-in-Ok
returns-in-Ok c =
    was_put c.args.builder.now c.add.new.self c.args.place c.args.symbol c.args.digest.now.bytes c.requires.place c.requires.symbol c.requires.begun c.in-Ok.ensures.answer.1 c.in-Ok.ensures.added

pub returns-in-Err-Duplicate : goal.returns-in-Err-Duplicate
returns-in-Err-Duplicate c =
    was_same c.args.builder.now c.args.place c.args.symbol c.in-Err-Duplicate.earlier_place c.in-Err-Duplicate.earlier_symbol c.args.digest.now.bytes c.requires.symbol c.requires.begun
    (rw c.in-Err-Duplicate.field-0-is at c.in-Err-Duplicate.ensures.answer).1
