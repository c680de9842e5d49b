-- The answers of commands as the definitions see them.
use Rattle.std.specs.Prelude.{ℕ, List, Option, Some, None, Result, Ok, Err}
use Rattle.outcome_terms.specs.declared.refusal.Refusal.{Refusal}
use Rattle.command_io.specs.declared.writing.Done.{Done}
use Rattle.command_io.specs.declared.writing.Done.TheVariants as done

-- the text that a done command leaves to be put out
abbrev pub text_left : Done → Option (List ℕ)
text_left done.Written = None
text_left (done.Text text) = Some text.items

-- the same, or the refusal
abbrev pub left_text : Result Done Refusal → Result (Option (List ℕ)) Refusal
left_text (Ok d) = Ok (text_left d)
left_text (Err e) = Err e
