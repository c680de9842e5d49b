use Rattle.std.proofs.Common.{refl}
use Rattle.std.specs.Str.{is_utf8, chars}
use lib.Utf8.{encode}
use Rattle.hex.specs.Hex.{encode_with, decode_pairs}
use Rattle.form_terms.specs.Forms.{before, followed, give, require, next_line, said, row, number_row, rows_after, the_end}
use Rattle.title_terms.specs.TitleText.{segment_said, digest_said, text_line, design_form, segment_form, list_form, mark_form, marked_form, digest_form, title_form, title_of, title_text}
use Rattle.title_terms.specs.Pair.{pair_digests}
use Rattle.title_terms.proofs.laws.faults_of_each_line.Goals as goal

pub returns : goal.returns
unfolding before followed give require next_line said row number_row rows_after the_end segment_said digest_said text_line design_form segment_form list_form mark_form marked_form digest_form title_form title_of is_utf8 chars encode encode_with decode_pairs title_text pair_digests
returns c = record { edition = refl; name_word = refl; name_rule = refl; bits_form = refl; bits_rule = refl; dimension_rule = refl; bound_rule = refl; prefix_rule = refl; suffix_form = refl; suffix_rule = refl; version_rule = refl; target_rule = refl; sequence_rule = refl; sequence_form = refl; segments_rule = refl; fewer_segments = refl; segment_form = refl; segment_rule = refl; marked_rule = refl; mark_form = refl; mark_rule = refl }
