-- The promise of each command, from the whole of a call.
use Rattle.std.proofs.Common.{◌≡◌, ℕ, List, Option, Some, None, Result}
use Rattle.std.specs.Option.{IfSome}
use Rattle.shelf_terms.specs.Blobs.{Blobs}
use Rattle.outcome_terms.specs.declared.status.Status.{Status}
use Rattle.outcome_terms.specs.declared.status.Status.TheVariants as status
use Rattle.outcome_terms.specs.declared.refusal.Refusal.{Refusal}
use Rattle.outcome_terms.specs.Request.{Request, Make, Enrol, Withdraw, MakeTitle, Package, Trace, Check, Accuse, Sample}
use Rattle.records.specs.Stores.{Store, Output}
use Rattle.outcome_terms.specs.Commands.{deed, request_of}
use Rattle.outcome_terms.specs.Outcome.{Performs, outcome_of, refused_by_words}
use Rattle.outcome_terms.specs.Output.{Delivers}
use Rattle.outcome_terms.specs.Call.{Ends, HasEffect, IsRefused}
use Rattle.outcome_terms.specs.Reports.{TellsReport}
use Rattle.outcome_terms.proofs.Calls.{ends_words, ends_effect}
use Rattle.outcome_terms.proofs.Headlines.{register_made, name_enrolled, name_withdrawn, HasReport, report_put, report_told}
use Rattle.sample_commands.proofs.Samples.{sums_up}
use Rattle.trace_cli.specs.Coalitions.{TracesCoalitions}
use Rattle.trace_cli.specs.Headline.{Headline}
use Rattle.trace_cli.proofs.Coalitions.{report_traces}
use Rattle.trace_cli.proofs.Checked.{right_told}
use Rattle.trace_cli.proofs.Packaged.{title_written, playlist_written}
use Rattle.trace_cli.proofs.TracedCopies.{trace_told}

-- where blobs are told, what follows of them
told_too : {P Q : Blobs → Type 0} (told : Option Blobs) → ((blobs : Blobs) → P blobs → Q blobs) → IfSome told P → IfSome told Q
told_too None f h = tt
told_too (Some blobs) f h = f blobs h

accuse_told : (told : Option Blobs) (register word : List ℕ) (c : ℕ) (before after : Option (List ℕ)) → IfSome told (λ blobs. HasReport blobs register word c before after)
    → TellsReport told register word c before after × TracesCoalitions told register word c
accuse_told None register word c before after h = (tt, tt)
accuse_told (Some blobs) register word c before after h = (report_told blobs register word c before after h, report_traces blobs register word c h.text h.is_report)

promised : (request : Option Request) (s : Status) (old new : Store) (before after : Output) (answer : Result (Option (List ℕ)) Refusal) → Performs (deed request) old new answer → Delivers answer s before after
    → IfSome (refused_by_words (deed request)) (λ e. IsRefused e s old new) → (s ≡ status.Ok → IfSome old.told (λ blobs. HasEffect (outcome_of (deed request) blobs) blobs new.told before after)) → Headline request s old new before after
promised None s old new before after answer performed delivered words effect = (words.ends, words.untouched)
promised (Some (Make m k a b out)) s old new before after answer performed delivered words effect = λ ok. told_too old.told (λ blobs h. register_made blobs m k a b out new.told before after h) (effect ok)
promised (Some (Enrol register name out)) s old new before after answer performed delivered words effect = λ ok. told_too old.told (λ blobs h. name_enrolled blobs register name out new.told before after h) (effect ok)
promised (Some (Withdraw register name out)) s old new before after answer performed delivered words effect = λ ok. told_too old.told (λ blobs h. name_withdrawn blobs register name out new.told before after h) (effect ok)
promised (Some (MakeTitle design source out)) s old new before after answer performed delivered words effect = λ ok. told_too old.told (λ blobs h. title_written blobs design source out new.told before after h) (effect ok)
promised (Some (Package title register name out)) s old new before after answer performed delivered words effect = λ ok. told_too old.told (λ blobs h. playlist_written blobs title register name out new.told before after h) (effect ok)
promised (Some (Trace title register copy c)) s old new before after answer performed delivered words effect = λ ok. trace_told old.told new.told title register copy c before after (effect ok)
promised (Some (Check title register copy report)) s old new before after answer performed delivered words effect = λ ok. right_told old.told new.told title register copy report before after (effect ok)
promised (Some (Accuse register word c)) s old new before after answer performed delivered words effect =
    λ ok. accuse_told old.told register word c before.written after.written (told_too old.told (λ blobs h. report_put blobs register word c new.told before after h) (effect ok))
promised (Some (Sample number)) s old new before after answer performed delivered words effect = λ ok. sums_up number s before after performed delivered ok

pub ends_headline : {words : List (List ℕ)} {old new : Store} {s : Status} {before after : Output} → Ends words old new s before after → Headline (request_of words) s old new before after
ends_headline {words} {old} {new} {s} {before} {after} ends = promised (request_of words) s old new before after ends.answer ends.performed ends.delivered (ends_words ends) (ends_effect ends)
