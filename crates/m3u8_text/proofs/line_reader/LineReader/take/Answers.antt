use Rattle.std.proofs.Common.{sym, subst}
use Rattle.playlist_terms.specs.Reading.{IsSaid}
use Rattle.playlist_terms.proofs.Said.{media_line_said}
use Rattle.m3u8_text.proofs.line_reader.LineReader.take.Goals as goal

pub take-requires : goal.take-requires
take-requires c = subst IsSaid (sym c.media_line-line.ensures) (media_line_said c.args.text.now)
