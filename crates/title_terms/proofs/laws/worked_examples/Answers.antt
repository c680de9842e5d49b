use Rattle.std.proofs.Common.{refl, lit<}
use Rattle.std.proofs.lemmas.Fmt.{decimal_digit}
use Rattle.hex.specs.Hex.{encode_with}
use Rattle.std.specs.Str.{is_utf8, chars}
use lib.Utf8.{encode}
use Rattle.form_terms.specs.Forms.{before, followed, give, require, next_line, said, row, number_row, rows_after, the_end}
use Rattle.title_terms.specs.TitleText.{segment_said, digest_said, text_line, design_form, segment_form, list_form, mark_form, marked_form, digest_form, title_form, title_of}
use Rattle.title_terms.proofs.laws.worked_examples.Goals as goal

pub returns : goal.returns
unfolding before followed give require next_line said row number_row rows_after the_end segment_said digest_said text_line design_form segment_form list_form mark_form marked_form digest_form title_form title_of is_utf8 chars encode encode_with
returns c = record { variant = rw (decimal_digit 1 (lit< tt)) refl; segment = refl; no_cut = refl; leading_zero = refl; one_place_too_few = refl; places_enough = refl; places_full = refl; heavy = refl; affix = refl }
