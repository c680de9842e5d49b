use Rattle.std.proofs.Common.{◌≡◌, [], codes, refl, lit<}
use Rattle.std.proofs.lemmas.Fmt.{decimal_digit}
use Rattle.std.specs.Str.{is_utf8, chars}
use lib.Utf8.{encode}
use Rattle.playlist_terms.specs.Lines.{line_of}
use Rattle.playlist_terms.specs.Playlists.{playlist_text}
use Rattle.playlist_terms.specs.Pair.{pair, pair_text}
use Rattle.playlist_terms.specs.MediaLines.{media_tag, media_line}
use Rattle.playlist_terms.proofs.laws.worked_examples.Goals as goal

written_text : playlist_text pair ≡ pair_text (codes "6.000000,") []
written_text = rw (decimal_digit 3 (lit< tt), decimal_digit 6 (lit< tt), decimal_digit 0 (lit< tt), decimal_digit 4 (lit< tt)) refl

pub returns : goal.returns
unfolding media_line line_of media_tag is_utf8 chars encode
returns c = record { written = written_text; read = refl; long_fraction = refl; cut = refl; short_fraction = refl; many_digits = refl; loose = refl; one_cut = refl }
