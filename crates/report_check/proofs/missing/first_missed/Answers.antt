use Rattle.std.proofs.Common.{◌<◌, ◌≤◌, length, sym, arith}
use Rattle.desk_terms.specs.Roll.{roll_of}
use Rattle.desk_terms.proofs.Rolls.{roll_of-length}
use Rattle.report_check.proofs.RowWalks.{at_most_eight, same_rows}
use Rattle.report_check.proofs.SerialWalks.{walks_first, walks_next, walks_stop, walks_end}
use Rattle.report_check.proofs.missing.first_missed.Goals as goal

pub serials-init : goal.serials-init
serials-init g c = record { walk = walks_first (roll_of c.args.register.now) c.args.word.now c.args.bound c.args.accused.now c.requires.order; looks = omega arith }

pub position_after-requires-clause-bound : goal.position_after-requires-clause-bound
position_after-requires-clause-bound g c = at_most_eight c.args.code.now.dimension c.args.bound c.requires.bound

pub returns-in-None-clause-missed : goal.returns-in-None-clause-missed
returns-in-None-clause-missed g c =
    let inside : c.serials.serial < length (roll_of c.args.register.now).entries = omega (arith, c.serials-test.true, c.len-serial-end.ensures.number, roll_of-length c.args.register.now) in
    sym (walks_stop (roll_of c.args.register.now) c.args.word.now c.args.bound c.args.accused.now c.serials.position c.serials.serial inside c.serials.invariant.walk
    (sym (c.in-None.ensures.position c.args.word.now (same_rows c.requires.bits c.requires.dimension (sym c.requires.length) c.of-rows.ensures.rows) c.of-slots.ensures)))

pub serials-preserved : goal.serials-preserved
serials-preserved g c =
    let inside : c.serials.serial < length (roll_of c.args.register.now).entries = omega (arith, c.serials-test.true, c.len-serial-end.ensures.number, roll_of-length c.args.register.now) in
    record {
      walk = walks_next (roll_of c.args.register.now) c.args.word.now c.args.bound c.args.accused.now c.serials.position c.serials.serial c.in-Some.next inside c.serials.invariant.walk
          (sym (c.in-Some.ensures.position c.args.word.now (same_rows c.requires.bits c.requires.dimension (sym c.requires.length) c.of-rows.ensures.rows) c.of-slots.ensures));
      looks = omega (arith, c.serials.invariant.looks, c.in-Some.ensures.looks);
    }

pub returns-clause-missed : goal.returns-clause-missed
returns-clause-missed g c =
    let over : length (roll_of c.args.register.now).entries ≤ c.serials.serial = omega (arith, c.serials-test.false, c.len-serial-end.ensures.number, roll_of-length c.args.register.now) in
    sym (walks_end (roll_of c.args.register.now) c.args.word.now c.args.bound c.args.accused.now c.serials.position c.serials.serial over c.serials.invariant.walk)
