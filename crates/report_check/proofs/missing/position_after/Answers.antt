use Rattle.std.proofs.Common.{drop, true, false}
use Rattle.report_check.proofs.RowWalks.{by_threshold}
use Rattle.report_check.proofs.missing.position_after.Goals as goal

pub returns-then-meets-clause-position : goal.returns-then-meets-clause-position
returns-then-meets-clause-position g c = λ word rows slots. by_threshold (drop c.args.position c.args.accused.now) c.args.position c.args.serial c.if-is_next.false c.is_next.ensures.next (c.meets.ensures.accused word rows slots) true c.if-meets.true

pub returns-else-meets-clause-position : goal.returns-else-meets-clause-position
returns-else-meets-clause-position g c = λ word rows slots. by_threshold (drop c.args.position c.args.accused.now) c.args.position c.args.serial c.if-is_next.false c.is_next.ensures.next (c.meets.ensures.accused word rows slots) false c.if-meets.false
