use Rattle.std.proofs.Common.{◌≡◌, ◌+◌, ◌*◌, ◌≤◌, drop, length}
use Rattle.desk_terms.specs.Roll.{roll_of}
use Rattle.report_terms.specs.Verdicts.{first_fault}
use Rattle.report_check.proofs.listed.first_fault.Given as goal

abbrev pub invariant-accused : goal.invariant-accused
invariant-accused g l = record {
  front : l.i ≤ l.least;
  few : l.least ≤ length l.register.licensees;
  rest : first_fault (roll_of l.register) l.word l.bound l.i l.least (drop l.i l.accused) ≡ first_fault (roll_of l.register) l.word l.bound 0 0 l.accused;
  products : l.prods ≤ l.fn.prods + l.i * (2 * (l.code.places * l.code.dimension));
  looks : l.looks ≤ l.fn.looks + l.i * 2;
}
