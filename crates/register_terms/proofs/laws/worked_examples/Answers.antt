use Rattle.std.proofs.Common.{refl, lit<}
use Rattle.std.proofs.lemmas.Fmt.{decimal_digit}
use Rattle.form_terms.specs.Forms.{before, followed, give, demand, next_line, said, row, number_row, require, rows_after, lines_left, the_end}
use Rattle.register_terms.specs.RegisterText.{register_text, header_form, licensee_row, licensees_form, register_form, register_of}
use Rattle.register_terms.proofs.laws.worked_examples.Goals as goal

pub returns-clause-written : goal.returns-clause-written
unfolding register_text
returns-clause-written c = rw (decimal_digit 4 (lit< tt), decimal_digit 2 (lit< tt), decimal_digit 1 (lit< tt), decimal_digit 0 (lit< tt)) refl

pub returns-clause-enrolled : goal.returns-clause-enrolled
unfolding register_text
returns-clause-enrolled c = rw (decimal_digit 4 (lit< tt), decimal_digit 2 (lit< tt), decimal_digit 1 (lit< tt), decimal_digit 0 (lit< tt)) refl

pub returns-clause-withdrawn : goal.returns-clause-withdrawn
returns-clause-withdrawn c = refl

pub returns-clause-few_messages : goal.returns-clause-few_messages
returns-clause-few_messages c = refl

pub returns-clause-many_messages : goal.returns-clause-many_messages
returns-clause-many_messages c = refl

pub returns-clause-read : goal.returns-clause-read
unfolding before followed give demand next_line said row number_row require rows_after lines_left the_end header_form licensee_row licensees_form register_form register_of
returns-clause-read c = refl

pub returns-clause-older : goal.returns-clause-older
unfolding before followed give demand next_line said row number_row require rows_after lines_left the_end header_form licensee_row licensees_form register_form register_of
returns-clause-older c = refl

pub returns-clause-bad_bits : goal.returns-clause-bad_bits
unfolding before followed give demand next_line said row number_row require rows_after lines_left the_end header_form licensee_row licensees_form register_form register_of
returns-clause-bad_bits c = refl

pub returns-clause-no_state : goal.returns-clause-no_state
unfolding before followed give demand next_line said row number_row require rows_after lines_left the_end header_form licensee_row licensees_form register_form register_of
returns-clause-no_state c = refl

pub returns-clause-no_state_and_no_name : goal.returns-clause-no_state_and_no_name
unfolding before followed give demand next_line said row number_row require rows_after lines_left the_end header_form licensee_row licensees_form register_form register_of
returns-clause-no_state_and_no_name c = refl

pub returns-clause-no_state_and_cut : goal.returns-clause-no_state_and_cut
unfolding before followed give demand next_line said row number_row require rows_after lines_left the_end header_form licensee_row licensees_form register_form register_of
returns-clause-no_state_and_cut c = refl

pub returns-clause-state_in_an_older_one : goal.returns-clause-state_in_an_older_one
unfolding before followed give demand next_line said row number_row require rows_after lines_left the_end header_form licensee_row licensees_form register_form register_of
returns-clause-state_in_an_older_one c = refl

pub returns-clause-taken : goal.returns-clause-taken
unfolding before followed give demand next_line said row number_row require rows_after lines_left the_end header_form licensee_row licensees_form register_form register_of
returns-clause-taken c = refl

pub returns-clause-cut_between : goal.returns-clause-cut_between
unfolding before followed give demand next_line said row number_row require rows_after lines_left the_end header_form licensee_row licensees_form register_form register_of
returns-clause-cut_between c = refl

pub returns-clause-cut_within : goal.returns-clause-cut_within
unfolding before followed give demand next_line said row number_row require rows_after lines_left the_end header_form licensee_row licensees_form register_form register_of
returns-clause-cut_within c = refl

pub returns-clause-empty : goal.returns-clause-empty
unfolding before followed give demand next_line said row number_row require rows_after lines_left the_end header_form licensee_row licensees_form register_form register_of
returns-clause-empty c = refl
