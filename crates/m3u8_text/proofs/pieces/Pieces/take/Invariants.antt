use Rattle.std.proofs.Common.{length}
use Rattle.m3u8_text.proofs.MoreBytes.{IsTaking}
use Rattle.m3u8_text.proofs.pieces.Pieces.take.Given as goal

abbrev pub invariant-lines : goal.invariant-lines
invariant-lines l = IsTaking l.fn.self l.piece l.self l.rest

abbrev pub decreases-lines : goal.decreases-lines
decreases-lines l = length l.rest
