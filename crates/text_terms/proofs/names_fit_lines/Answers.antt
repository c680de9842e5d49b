use Rattle.text_terms.proofs.NameLaws.{plain_is_name, name_form, name_no_control, name_no_line_feed}
use Rattle.text_terms.proofs.names_fit_lines.Goals as goal

pub returns : goal.returns
returns c = record {
  plain = plain_is_name;
  some = λ text is. (name_form text is).some;
  most = λ text is. (name_form text is).most;
  no_control = name_no_control;
  no_line_feed = name_no_line_feed;
}
