-- What a command asks for, apart from where its words lie.
use Rattle.std.specs.Prelude.{IsTrue, ⊤}
use Rattle.text_terms.specs.Names.{is_name}
use Rattle.cli_words.specs.declared.command.Command.{Command}
use Rattle.cli_words.specs.declared.command.Command.TheVariants as command
use Rattle.outcome_terms.specs.Request.{Request, Make, Enrol, Withdraw, MakeTitle, Package, Trace, Check, Accuse, Sample}

abbrev pub request : Command → Request
request (command.Register m k a b out) = Make m k a b out.now
request (command.Enrol reg name out) = Enrol reg.now name.now out.now
request (command.Withdraw reg name out) = Withdraw reg.now name.now out.now
request (command.Title design source out) = MakeTitle design.now source.now out.now
request (command.Package title reg name out) = Package title.now reg.now name.now out.now
request (command.Trace title reg copy c) = Trace title.now reg.now copy.now c
request (command.Check title reg copy report) = Check title.now reg.now copy.now report.now
request (command.Accuse reg word c) = Accuse reg.now word.now c
request (command.Sample number) = Sample number

-- each blob's name in a command has the form of one
abbrev pub HasNames : Command → Type 0
HasNames (command.Register m k a b out) = IsTrue (is_name out.now)
HasNames (command.Enrol reg name out) = IsTrue (is_name reg.now) × IsTrue (is_name out.now)
HasNames (command.Withdraw reg name out) = IsTrue (is_name reg.now) × IsTrue (is_name out.now)
HasNames (command.Title design source out) = IsTrue (is_name design.now) × (IsTrue (is_name source.now) × IsTrue (is_name out.now))
HasNames (command.Package title reg name out) = IsTrue (is_name title.now) × (IsTrue (is_name reg.now) × IsTrue (is_name out.now))
HasNames (command.Trace title reg copy c) = IsTrue (is_name title.now) × (IsTrue (is_name reg.now) × IsTrue (is_name copy.now))
HasNames (command.Check title reg copy report) = IsTrue (is_name title.now) × (IsTrue (is_name reg.now) × (IsTrue (is_name copy.now) × IsTrue (is_name report.now)))
HasNames (command.Accuse reg word c) = IsTrue (is_name reg.now) × IsTrue (is_name word.now)
HasNames (command.Sample number) = ⊤
