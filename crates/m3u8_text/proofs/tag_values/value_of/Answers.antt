use Rattle.std.proofs.Common.{ap, arith}
use Rattle.std.specs.Str.Parse.{digits_value}
use Rattle.std.proofs.lemmas.List.{take_all}
use Rattle.m3u8_text.proofs.Digits.{step, value_below}
use Rattle.m3u8_text.proofs.tag_values.value_of.Goals as goal

pub overflow_mul-value : goal.overflow_mul-value
overflow_mul-value c =
    let next = step c.args.digits.now c.loop-digit.digit-index c.requires.digits c.requires.few c.loop-digit-test.true in
    omega (arith, c.loop-digit.invariant, next.value, next.below)

pub digit_of-requires : goal.digit_of-requires
digit_of-requires c = (step c.args.digits.now c.loop-digit.digit-index c.requires.digits c.requires.few c.loop-digit-test.true).digit

pub overflow_add-value : goal.overflow_add-value
overflow_add-value c =
    let next = step c.args.digits.now c.loop-digit.digit-index c.requires.digits c.requires.few c.loop-digit-test.true in
    omega (arith, c.loop-digit.invariant, next.value, next.below, c.from.ensures, c.digit_of.ensures.value)

pub loop-digit-preserved : goal.loop-digit-preserved
loop-digit-preserved c =
    let next = step c.args.digits.now c.loop-digit.digit-index c.requires.digits c.requires.few c.loop-digit-test.true in
    omega (arith, c.loop-digit.invariant, next.value, c.from.ensures, c.digit_of.ensures.value)

pub returns-clause-below : goal.returns-clause-below
returns-clause-below c most few =
    let digits = c.args.digits.now in
    let whole = take_all c.loop-digit.digit-index digits (omega (arith, c.loop-digit-test.false)) in
    omega (arith, c.loop-digit.invariant, ap (digits_value 10) whole, value_below digits most c.requires.digits few)
