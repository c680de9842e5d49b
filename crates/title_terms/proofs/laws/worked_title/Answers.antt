use Rattle.std.proofs.Common.{◌≡◌, refl, sym, Ok}
use Rattle.std.specs.List.{flat_map}
use Rattle.std.specs.Str.{is_utf8, chars}
use lib.Utf8.{encode}
use Rattle.hex.specs.Hex.{encode_with, decode_pairs}
use Rattle.form_terms.specs.TextLines.{line}
use Rattle.form_terms.specs.Forms.{before, followed, give, require, next_line, said, row, number_row, rows_after, the_end}
use Rattle.title_terms.specs.TitleText.{segment_said, digest_said, text_line, design_form, segment_form, list_form, mark_form, marked_form, digest_form, title_form, title_of}
use Rattle.title_terms.specs.Pair.{pair_digests, pair_lines, pair_title}
use Rattle.title_terms.proofs.Texts.{read_was_written}
use Rattle.title_terms.proofs.laws.worked_title.Goals as goal

read : title_of (flat_map line pair_lines) ≡ Ok pair_title
unfolding before followed give require next_line said row number_row rows_after the_end segment_said digest_said text_line design_form segment_form list_form mark_form marked_form digest_form title_form title_of is_utf8 chars encode encode_with decode_pairs pair_digests
read = refl

pub returns : goal.returns
unfolding pair_digests
returns c = record { lines = refl; written = sym (read_was_written (flat_map line pair_lines) pair_title read).text; read = read }
