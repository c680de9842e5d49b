use Rattle.std.proofs.Common.{◌++◌, ◌∙◌, ap, drop, codes}
use Rattle.std.specs.Str.Parse.{digits_value}
use Rattle.playlist_terms.proofs.Digits.{six_are_digits}
use Rattle.m3u8_text.proofs.Digits.{over_zeros}
use Rattle.m3u8_text.proofs.durations.millionths.Goals as goal

pub value_of-requires-clause-digits : goal.value_of-requires-clause-digits
value_of-requires-clause-digits c =
    let fraction = c.args.fraction.now in
    let given = c.min-given.result in
    let six = ap (λ front. front ++ drop given (codes "000000")) c.copy_from_slice.ensures.after ∙ over_zeros fraction given c.min-given.ensures in
    rw six (six_are_digits fraction c.requires)

pub returns-clause-value : goal.returns-clause-value
returns-clause-value c =
    let fraction = c.args.fraction.now in
    let given = c.min-given.result in
    let six = ap (λ front. front ++ drop given (codes "000000")) c.copy_from_slice.ensures.after ∙ over_zeros fraction given c.min-given.ensures in
    c.value_of.ensures.value ∙ ap (digits_value 10) six
