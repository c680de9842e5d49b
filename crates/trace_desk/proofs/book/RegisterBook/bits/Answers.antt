use Rattle.desk_terms.proofs.Rolls.{roll_of-is_roll}
use Rattle.trace_desk.proofs.book.RegisterBook.bits.Goals as goal

pub returns-clause-kept : goal.returns-clause-kept
returns-clause-kept c = roll_of-is_roll c.args.self.now c.len-licensees.ensures.valid
