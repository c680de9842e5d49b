use Rattle.std.proofs.Common.{sym, subst, Err}
use Rattle.playlist_terms.specs.Reading.{playlist_of}
use Rattle.m3u8_text.specs.Answers.{ReadsAs}
use Rattle.m3u8_text.proofs.MoreBytes.{reads_fault}
use Rattle.m3u8_text.proofs.pieces.Pieces.finish.Goals as goal

pub returns-in-Some : goal.returns-in-Some
returns-in-Some c bytes stands =
    subst (λ error. ReadsAs (Err error) (playlist_of bytes)) (sym c.into.ensures)
    (reads_fault bytes c.args.self.tail.items c.args.self.fault c.args.self.reader c.in-Some.found c.in-Some.is stands)
