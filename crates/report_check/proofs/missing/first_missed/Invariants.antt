use Rattle.std.proofs.Common.{◌+◌, ◌≤◌}
use Rattle.desk_terms.specs.Roll.{roll_of}
use Rattle.report_check.proofs.SerialWalks.{Walks}
use Rattle.report_check.proofs.missing.first_missed.Given as goal

abbrev pub invariant-serials : goal.invariant-serials
invariant-serials g l = record {
  walk : Walks (roll_of l.register) l.word l.bound l.accused l.position l.serial;
  looks : l.looks ≤ l.fn.looks + l.serial;
}
