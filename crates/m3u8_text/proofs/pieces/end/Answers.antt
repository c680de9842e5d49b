use Rattle.std.proofs.Common.{◌∙◌, sym, subst, length, Ok, Err, arith}
use Rattle.std.proofs.lemmas.Bool.{eqb-true, eqb-false}
use Rattle.std.specs.Str.Lines.{strip_carriage_return}
use Rattle.playlist_terms.specs.MediaLines.{media_line}
use Rattle.m3u8_text.specs.Readers.{TakesLine}
use Rattle.m3u8_text.proofs.MoreBytes.{reads_empty, reads_last, ends_faulty}
use Rattle.m3u8_text.proofs.pieces.end.Goals as goal

pub returns-then-is_empty : goal.returns-then-is_empty
returns-then-is_empty c bytes at =
    reads_empty bytes c.args.tail.now c.args.reader c.finish.result (eqb-true (length c.args.tail.now) 0 (sym c.is_empty.ensures ∙ c.if-is_empty.true)) at c.finish.ensures

pub returns-in_default : goal.returns-in_default
returns-in_default c bytes at =
    let not_empty = eqb-false (length c.args.tail.now) 0 (sym c.is_empty.ensures ∙ c.if-is_empty.false) in
    reads_last bytes c.args.tail.now c.args.reader c.take.new.self c.finish-in_default.result (omega (arith, not_empty)) at
    (λ before stands. subst (λ text. TakesLine (Ok tt) before c.take.new.self (media_line text)) c.without_return.ensures (c.in_default.ensures.line before stands))
    c.finish-in_default.ensures

pub returns : goal.returns
returns c bytes at =
    let not_empty = eqb-false (length c.args.tail.now) 0 (sym c.is_empty.ensures ∙ c.if-is_empty.false) in
    let line = subst (λ text. TakesLine (Err c.in-Err.error) at.before c.take.new.self (media_line text)) c.without_return.ensures (c.in-Err.ensures.line at.before at.stands) in
    ends_faulty bytes c.args.tail.now c.args.reader c.take.new.self.lines c.in-Faulty.fault at (omega (arith, not_empty))
    (subst (λ error. TakesLine (Err error) at.before c.take.new.self (media_line (strip_carriage_return c.args.tail.now))) c.in-Faulty.is line)
    c.in-Err.ensures.number
