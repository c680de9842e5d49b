-- The names of the commands, and what stands for the words that follow. This project's own.
use Rattle.std.specs.Prelude.{ℕ, List, codes}
use Rattle.cli_words.specs.declared.command.CommandName.{CommandName}
use Rattle.cli_words.specs.declared.command.CommandName.TheVariants as name

abbrev pub name_word : CommandName → List ℕ
name_word name.Register = codes "register"
name_word name.Enrol = codes "enrol"
name_word name.Withdraw = codes "withdraw"
name_word name.Title = codes "title"
name_word name.Package = codes "package"
name_word name.Trace = codes "trace"
name_word name.Check = codes "check"
name_word name.Accuse = codes "accuse"
name_word name.Sample = codes "sample"

abbrev pub name_arguments : CommandName → List ℕ
name_arguments name.Register = codes "M K A B OUT"
name_arguments name.Enrol = codes "REG NAME OUT"
name_arguments name.Withdraw = codes "REG NAME OUT"
name_arguments name.Title = codes "DESIGN SOURCE OUT"
name_arguments name.Package = codes "TITLE REG NAME OUT"
name_arguments name.Trace = codes "TITLE REG COPY C"
name_arguments name.Check = codes "TITLE REG COPY REPORT"
name_arguments name.Accuse = codes "REG WORD C"
name_arguments name.Sample = codes "NUMBER"
