use Rattle.desk_terms.specs.Roll.{message_at, roll_of}
use Rattle.report_check.proofs.Licensees.{enrolled_where_found}
use Rattle.report_check.proofs.listed.fault_of.Goals as goal

pub returns-clause-enrolled : goal.returns-clause-enrolled
returns-clause-enrolled g c =
    enrolled_where_found c.args.register.now c.args.one.now c.in-Some.message (message_at (roll_of c.args.register.now) c.args.one.now.serial) c.in-Some.ensures.found
