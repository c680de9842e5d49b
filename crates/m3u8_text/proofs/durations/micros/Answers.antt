use Rattle.std.proofs.Common.{◌∙◌, sym, arith}
use Rattle.playlist_terms.proofs.Digits.{has_digits}
use Rattle.m3u8_text.proofs.durations.micros.Goals as goal

pub overflow_add-result : goal.overflow_add-result
overflow_add-result c =
    let digits = has_digits 10 c.args.seconds.now (sym c.are_digits.ensures ∙ c.if-not-are_digits.false) in
    omega (arith, c.value_of-whole.ensures.below 10 digits.few, c.millionths.ensures.below)
