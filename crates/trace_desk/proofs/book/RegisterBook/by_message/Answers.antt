use Rattle.desk_terms.proofs.Rolls.{roll_of-is_roll}
use Rattle.trace_desk.proofs.Books.{register_found, register_lacks}
use Rattle.trace_desk.proofs.book.RegisterBook.by_message.Goals as goal

pub returns-clause-some : goal.returns-clause-some
returns-clause-some g c = register_found c.args.self.now c.args.message c.by_message.result c.by_message.ensures.some

pub returns-clause-none : goal.returns-clause-none
returns-clause-none g c = λ none. register_lacks c.args.self.now c.args.message (c.by_message.ensures.none none)

pub returns-clause-kept : goal.returns-clause-kept
returns-clause-kept g c = roll_of-is_roll c.args.self.now c.by_message.ensures.valid
