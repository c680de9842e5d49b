use Rattle.std.proofs.Common.{◌++◌, ◌∙◌, sym, subst, Err}
use Rattle.std.specs.Str.Lines.{strip_carriage_return}
use Rattle.playlist_terms.specs.MediaLines.{media_line}
use Rattle.m3u8_text.specs.Readers.{TakesLine, HasTaken}
use Rattle.m3u8_text.proofs.MoreBytes.{takes_line, refuses_line}
use Rattle.m3u8_text.proofs.pieces.Pieces.end_line.Goals as goal

pub returns-in_default-clause-stands : goal.returns-in_default-clause-stands
returns-in_default-clause-stands c =
    takes_line c.args.self.now c.take_line.new.self c.args.end.now (sym c.is_some.ensures ∙ c.if-is_some.false) c.in_default.ensures.fault c.in_default.ensures.tail c.requires.one c.in_default.ensures.line

pub returns-in-Faulty-clause-stands : goal.returns-in-Faulty-clause-stands
returns-in-Faulty-clause-stands c =
    let old = c.args.self.now in
    let new = c.take_line.new.self in
    let line = media_line (strip_carriage_return (old.tail.items ++ c.args.end.now)) in
    refuses_line old c.args.end.now new.reader.lines c.in-Faulty.fault (sym c.is_some.ensures ∙ c.if-is_some.false) c.requires.one
    (λ before stands. subst (λ error. TakesLine (Err error) before new.reader line) c.in-Faulty.is (c.in-Err.ensures.line before stands))
    (subst (λ error. HasTaken (Err error) old.reader.lines new.reader.lines) c.in-Faulty.is c.in-Err.ensures.number)
