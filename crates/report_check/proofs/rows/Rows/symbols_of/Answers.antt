use Rattle.std.proofs.Common.{◌≤◌, ◌<◌, ◌^◌, ◌*◌, replicate, subst, sym, arith}
use Rattle.std.proofs.lemmas.List.{get_or-replicate}
use Rattle.report_check.specs.Shown.{HasSymbols}
use Rattle.report_check.proofs.DigitSums.{no_digits, one_digit_more, all_digits}
use Rattle.report_check.proofs.rows.Rows.symbols_of.Goals as goal

pub loop-zeros-init : goal.loop-zeros-init
loop-zeros-init c = λ m k n are short small. no_digits m k n c.number-number.result (replicate 256 0) (λ place within. get_or-replicate 256 place 0 0 (omega (arith, within, short)))

pub loop-zeros-preserved : goal.loop-zeros-preserved
loop-zeros-preserved c = λ m k n are short small.
    one_digit_more m k n c.args.self.now.digits c.number-number.result c.loop-zeros.zeros c.args.self.now.rows c.loop-zeros.symbols c.add.new.symbols are short small c.loop-zeros-test.true
    (c.loop-zeros.invariant m k n are short small) c.add.ensures

pub returns : goal.returns
returns c = λ m k n are short small.
    let is = c.number-number.ensures in
    let below : c.number-number.result < 2 ^ (m * k) = subst (λ u. u < 2 ^ (m * k)) (sym is) small in
    let over : c.args.self.now.digits ≤ c.loop-zeros.zeros = omega (arith, c.loop-zeros-test.false) in
    subst (λ u. HasSymbols m k u n c.loop-zeros.symbols) is
    (all_digits m k n c.args.self.now.digits c.number-number.result c.loop-zeros.zeros c.args.self.now.rows c.loop-zeros.symbols are below over (c.loop-zeros.invariant m k n are short below))
