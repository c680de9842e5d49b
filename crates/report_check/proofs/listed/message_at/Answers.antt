use Rattle.std.proofs.Common.{◌∙◌}
use Rattle.report_check.proofs.Licensees.{message_known}
use Rattle.report_check.proofs.listed.message_at.Goals as goal

pub returns-clause-found : goal.returns-clause-found
returns-clause-found g c = c.message_of.ensures.found ∙ message_known c.args.register.now c.args.serial
