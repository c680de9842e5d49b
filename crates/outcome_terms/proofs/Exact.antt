-- What a done command read, and what it did with that.
use Rattle.std.proofs.Common.{◌≡◌, List, ℕ, Option, Result, Ok, Err}
use Rattle.records.specs.Stores.{Store, Output}
use Rattle.outcome_terms.specs.declared.status.Status.{Status}
use Rattle.outcome_terms.specs.declared.status.Status.TheVariants as status
use Rattle.outcome_terms.specs.declared.refusal.Refusal.{Refusal}
use Rattle.outcome_terms.specs.declared.refusal.Refusal.TheVariants as refusal
use Rattle.outcome_terms.specs.Commands.{Deed, deed, request_of}
use Rattle.outcome_terms.specs.Outcome.{Performs, unknown, made, not_made, wrote, stopped, lost}
use Rattle.outcome_terms.specs.Output.{PutFailed, Delivers}
use Rattle.outcome_terms.specs.Call.{Ends, DoneSo}
use Rattle.outcome_terms.proofs.Calls.{refusal_not_done, whole_told}
use Rattle.outcome_terms.proofs.Supposed.{read_so}

done_so : {d : Deed} {s t : Store} {answer : Result (Option (List ℕ)) Refusal} (st : Status) (before after : Output) → Performs d s t answer → Delivers answer st before after → st ≡ status.Ok → DoneSo d s t before after
done_so st before after unknown delivered ok = refusal_not_done refusal.BadWords st (PutFailed before after) delivered.ends ok
done_so st before after (made {text = text} p) delivered ok =
    record { text = text; read = read_so p; put = whole_told st text before.written after.written ok delivered.out; taken = delivered.taken ok }
done_so st before after (not_made {e = e} p) delivered ok = refusal_not_done e st (PutFailed before after) delivered.ends ok
done_so st before after (wrote {text = text} {writing = writing} {t = t} p is w) delivered ok =
    (record { writing = writing; text = text; between = t.events; read = read_so p; is_writing = is; taken = w.handed_in }, delivered.same)
done_so st before after (stopped {e = e} p) delivered ok = refusal_not_done e st (PutFailed before after) delivered.ends ok
done_so st before after (lost {e = e} p is w) delivered ok = refusal_not_done e st (PutFailed before after) delivered.ends ok

pub ends_exact : {words : List (List ℕ)} {old new : Store} {s : Status} {before after : Output} → Ends words old new s before after → s ≡ status.Ok → DoneSo (deed (request_of words)) old new before after
ends_exact {s = s} {before = before} {after = after} ends ok = done_so s before after ends.performed ends.delivered ok
