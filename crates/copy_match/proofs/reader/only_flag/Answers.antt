use Rattle.std.proofs.Common.{◌≡◌, ◌∙◌, ℕ, length, Bool, true, false, get_or, Some, sym}
use Rattle.copy_match.proofs.Flags.{second_flag, first_flag, no_flag}
use Rattle.copy_match.proofs.reader.only_flag.Goals as goal
use Rattle.copy_match.proofs.reader.only_flag.Goals.{then-flag+else-is_some, else-flag}

pub returns-then-is_some : goal.returns-then-is_some
returns-then-is_some c =
    let p : ℕ → Bool = λ symbol. get_or c.args.flags.now symbol false in
    sym (second_flag p c.flags.symbol (length c.args.flags.now) c.flags.found c.flags-test.true c.flags.invariant (sym c.is_some.ensures ∙ c.if-is_some.true) c.if-flag.true)

pub flags-preserved : goal.flags-preserved
flags-preserved c =
    let p : ℕ → Bool = λ symbol. get_or c.args.flags.now symbol false in
    elim c.if-flag.branch [
      | then-flag+else-is_some w ↦ first_flag p c.flags.symbol c.flags.found c.if-flag.found c.flags.invariant (sym w.is_some.ensures ∙ w.if-is_some.false) w.if-flag.true w.found-is
      | else-flag w ↦ no_flag p c.flags.symbol c.flags.found c.if-flag.found c.flags.invariant w.if-flag.false w.found-is
    ]
