-- What a call promises, command by command.
use Rattle.std.specs.Prelude.{◌≡◌, ◌⊎◌, Option, Some, None, IfSome}
use Rattle.outcome_terms.specs.declared.status.Status.{Status}
use Rattle.outcome_terms.specs.declared.status.Status.TheVariants as status
use Rattle.outcome_terms.specs.Request.{Request, Make, Enrol, Withdraw, MakeTitle, Package, Trace, Check, Accuse, Sample}
use Rattle.records.specs.Stores.{Store, Output}
use Rattle.outcome_terms.specs.Reports.{MakesRegister, EnrolsName, WithdrawsName, TellsReport}
use Rattle.copy_reports.specs.TracedCopies.{TellsTraceReport, TracesExplained, TracesPackaged}
use Rattle.sample_commands.specs.Samples.{SumsUp}
use Rattle.trace_cli.specs.Coalitions.{TracesCoalitions}
use Rattle.trace_cli.specs.Checked.{TellsRight}
use Rattle.trace_cli.specs.Packaged.{WritesTitle, WritesPlaylist}

-- Words that are no command are refused, and nothing is read or written. A done command has done what its name says, where the
-- blobs are told; what `accuse` and `trace` put out is the report, and of each coalition of at most c licensees that explains the word
-- somebody is found, and nobody else; what `check` answered for is what the desk finds. What `sample` says needs no blob that is told.
abbrev pub Headline : Option Request → Status → Store → Store → Output → Output → Type 0
Headline None s old new before after = ((s ≡ status.BadWords) ⊎ (s ≡ status.Memory)) × (new ≡ old)
Headline (Some (Make m k a b out)) s old new before after = s ≡ status.Ok → IfSome old.told (λ blobs. MakesRegister blobs m k a b out new.told)
Headline (Some (Enrol register name out)) s old new before after = s ≡ status.Ok → IfSome old.told (λ blobs. EnrolsName blobs register name out new.told)
Headline (Some (Withdraw register name out)) s old new before after = s ≡ status.Ok → IfSome old.told (λ blobs. WithdrawsName blobs register name out new.told)
Headline (Some (MakeTitle design source out)) s old new before after = s ≡ status.Ok → IfSome old.told (λ blobs. WritesTitle blobs design source out new.told)
Headline (Some (Package title register name out)) s old new before after = s ≡ status.Ok → IfSome old.told (λ blobs. WritesPlaylist blobs title register name out new.told)
Headline (Some (Trace title register copy c)) s old new before after =
    s ≡ status.Ok → TellsTraceReport old.told title register copy c before.written after.written
    × (TracesExplained old.told title register copy c × TracesPackaged old.told title register copy c)
Headline (Some (Check title register copy report)) s old new before after = s ≡ status.Ok → TellsRight old.told title register copy report before.written after.written
Headline (Some (Accuse register word c)) s old new before after =
    s ≡ status.Ok → TellsReport old.told register word c before.written after.written × TracesCoalitions old.told register word c
Headline (Some (Sample number)) s old new before after = s ≡ status.Ok → SumsUp number before.written after.written
