use Rattle.std.proofs.Common.{refl}
use Rattle.std.specs.Str.{is_utf8, chars}
use lib.Utf8.{encode}
use Rattle.playlist_terms.specs.Lines.{line_of}
use Rattle.playlist_terms.specs.MediaLines.{media_tag, media_line}
use Rattle.playlist_terms.proofs.laws.worked_faults.Goals as goal

pub returns : goal.returns
unfolding media_line line_of media_tag is_utf8 chars encode
returns c = record { empty = refl; byte_order_mark = refl; no_uri = refl; encrypted = refl; initialisation = refl; repeated = refl; started_again = refl; no_version = refl; event = refl; two_durations = refl; bad_duration = refl; no_duration = refl; bad_uri = refl; no_target = refl; garbled = refl; first = refl; end_within = refl }
