use Rattle.std.proofs.Common.{refl}
use Rattle.std.specs.Str.{is_utf8, chars}
use lib.Utf8.{encode}
use Rattle.form_terms.specs.Forms.{before, followed, give, require, next_line, said, row, number_row, rows_after, the_end}
use Rattle.title_terms.specs.TitleText.{segment_said, digest_said, text_line, design_form, segment_form, list_form, mark_form, marked_form, digest_form, title_form, title_of}
use Rattle.title_terms.proofs.laws.worked_faults.Goals as goal

pub returns : goal.returns
unfolding before followed give require next_line said row number_row rows_after the_end segment_said digest_said text_line design_form segment_form list_form mark_form marked_form digest_form title_form title_of is_utf8 chars encode
returns c = record { empty = refl; cut_between = refl; cut_within = refl; name = refl; no_text = refl; bits = refl; heavy = refl; too_few = refl; past_the_segments = refl; not_above = refl }
