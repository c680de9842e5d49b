use Rattle.std.proofs.Common.{refl}
use Rattle.std.specs.Str.{is_utf8, chars}
use lib.Utf8.{encode}
use Rattle.playlist_terms.specs.Lines.{line_of}
use Rattle.playlist_terms.specs.MediaLines.{media_tag, media_line}
use Rattle.playlist_terms.proofs.laws.cut_texts.Goals as goal

pub returns : goal.returns
unfolding media_line line_of media_tag is_utf8 chars encode
returns c = record { nothing = refl; no_target = refl; no_uri = refl; no_end = refl; whole = refl }
