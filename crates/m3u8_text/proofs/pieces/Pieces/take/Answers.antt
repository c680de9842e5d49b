use Rattle.m3u8_text.proofs.MoreBytes.{one_line_on}
use Rattle.m3u8_text.proofs.pieces.Pieces.take.Goals as goal

pub lines-preserved : goal.lines-preserved
lines-preserved c =
    one_line_on c.args.self.now c.lines.self c.end_line.new.self c.args.piece.now c.lines.rest.now c.in-Some.end.now c.in-Some.after.now
    c.lines.invariant c.in-Some.ensures.parts.0 c.in_ok-end_line.ensures.stands c.in_ok-end_line.ensures.room
