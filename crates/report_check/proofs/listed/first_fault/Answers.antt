use Rattle.std.proofs.Common.{◌≡◌, ◌≤◌, None, length, sym, ◌∙◌, arith}
use Rattle.desk_terms.specs.Roll.{roll_of}
use Rattle.report_terms.specs.Verdicts.{first_fault}
use Rattle.report_check.proofs.Faults.{fault_here, fault_later, no_fault}
use Rattle.report_check.proofs.SerialWalks.{ascends}
use Rattle.report_check.proofs.StepSums.{turns}
use Rattle.report_check.proofs.listed.first_fault.Goals as goal

pub overflow_cast-i : goal.overflow_cast-i
overflow_cast-i g c = omega (arith, c.accused.invariant.front, c.accused.invariant.few, c.len-licensees.ensures.number, c.len-licensees.ensures.few)

pub returns-in-Some-clause-fault : goal.returns-in-Some-clause-fault
returns-in-Some-clause-fault g c =
    sym (fault_here (roll_of c.args.register.now) c.args.word.now c.args.bound c.args.accused.now c.accused.i c.accused.i c.accused.least c.index-accused-i.result c.in-Some.fault c.accused-test.true c.index-accused-i.is c.in-Some.ensures.fault)
    ∙ c.accused.invariant.rest

pub returns-in-Some-clause-products : goal.returns-in-Some-clause-products
returns-in-Some-clause-products g c = omega (arith, turns _ _ _ _ c.accused-test.true c.accused.invariant.products c.in-Some.ensures.products)

pub returns-in-Some-clause-looks : goal.returns-in-Some-clause-looks
returns-in-Some-clause-looks g c = omega (arith, c.accused-test.true, c.accused.invariant.looks, c.in-Some.ensures.looks)

pub overflow_add-least : goal.overflow_add-least
overflow_add-least g c = omega (arith, c.in-None.ensures.enrolled, c.len-licensees.ensures.number, c.len-licensees.ensures.few)

pub accused-preserved : goal.accused-preserved
accused-preserved g c = record {
  front = omega (arith, c.accused.invariant.front, c.in-None.ensures.order);
  few = omega (arith, c.in-None.ensures.enrolled);
  rest =
      sym (fault_later (roll_of c.args.register.now) c.args.word.now c.args.bound c.args.accused.now c.accused.i c.accused.i c.accused.least c.index-accused-i.result c.accused-test.true c.index-accused-i.is c.in-None.ensures.fault)
      ∙ c.accused.invariant.rest;
  products = omega (arith, c.accused.invariant.products, c.in-None.ensures.products);
  looks = omega (arith, c.accused.invariant.looks, c.in-None.ensures.looks);
}

pub returns-clause-fault : goal.returns-clause-fault
returns-clause-fault g c =
    let over : length c.args.accused.now ≤ c.accused.i = omega (arith, c.accused-test.false) in
    sym (no_fault (roll_of c.args.register.now) c.args.word.now c.args.bound c.args.accused.now c.accused.i c.accused.i c.accused.least over) ∙ c.accused.invariant.rest

pub returns-clause-order : goal.returns-clause-order
returns-clause-order g c =
    let over : length c.args.accused.now ≤ c.accused.i = omega (arith, c.accused-test.false) in
    let none : first_fault (roll_of c.args.register.now) c.args.word.now c.args.bound 0 0 c.args.accused.now ≡ None =
    sym c.accused.invariant.rest ∙ no_fault (roll_of c.args.register.now) c.args.word.now c.args.bound c.args.accused.now c.accused.i c.accused.i c.accused.least over in
    ascends (roll_of c.args.register.now) c.args.word.now c.args.bound 0 0 c.args.accused.now none
