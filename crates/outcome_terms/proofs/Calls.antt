-- What a call's status says, from the whole that is promised of the call.
use Rattle.std.proofs.Common.{◌≡◌, ◌≢◌, ◌∙◌, ℕ, List, [], ◌∷◌, Contains, Bool, true, false, ◌==◌, ◌||◌, Option, Some, None, Result, Ok, Err, refl, sym, ap, subst, inl, inr, ◌⊎◌}
use Rattle.std.specs.Option.{IfSome}
use Rattle.std.specs.Result.{IfErr, IsOk}
use Rattle.std.specs.List.{list_any}
use Rattle.std.proofs.lemmas.Bool.{eq-eqb}
use Rattle.shelf_terms.specs.Blobs.{Blobs}
use Rattle.shelf_terms.specs.Counts.{Rose, Tally}
use Rattle.register_terms.specs.declared.refusal.NameRefusal.TheVariants as names
use Rattle.outcome_terms.specs.declared.status.Status.{Status}
use Rattle.outcome_terms.specs.declared.status.Status.TheVariants as status
use Rattle.outcome_terms.specs.declared.fault.Fault.{Fault}
use Rattle.outcome_terms.specs.declared.fault.Fault.TheVariants as fault
use Rattle.outcome_terms.specs.declared.refusal.Refusal.{Refusal}
use Rattle.outcome_terms.specs.declared.refusal.Refusal.TheVariants as refusal
use Rattle.outcome_terms.specs.Statuses.{fault_line, refusal_status, status_code}
use Rattle.outcome_terms.specs.Request.{Request, Make, Enrol, Withdraw, MakeTitle, Package, Trace, Check, Accuse, Sample}
use Rattle.outcome_terms.specs.Reading.{Reading, Within}
use Rattle.outcome_terms.specs.Stores.{NoneFell, Caused, Writing}
use Rattle.records.specs.Stores.{Store, Output}
use Rattle.outcome_terms.specs.RegisterCommand.{make, make_statuses}
use Rattle.outcome_terms.specs.EnrolCommand.{enrol, enrol_statuses}
use Rattle.outcome_terms.specs.WithdrawCommand.{withdraw, withdraw_statuses}
use Rattle.outcome_terms.specs.TitleCommand.{title, title_statuses}
use Rattle.outcome_terms.specs.PackageCommand.{package_, package_statuses}
use Rattle.outcome_terms.specs.TraceCommand.{trace, trace_statuses}
use Rattle.outcome_terms.specs.CheckCommand.{check, check_statuses}
use Rattle.outcome_terms.specs.AccuseCommand.{accuse, accuse_statuses}
use Rattle.outcome_terms.specs.SampleCommand.{sample, sample_statuses}
use Rattle.outcome_terms.specs.Commands.{Deed, Nothing, Put, Write, deed, request_of, may_end}
use Rattle.outcome_terms.specs.Outcome.{Effect, Puts, Wrote, outcome, outcome_of, outcome_status, is_free_status, LeavesEffect, Performs, unknown, made, not_made, wrote, stopped, lost, DeedAsks, deed_names, written_name, refused_by_words}
use Rattle.outcome_terms.specs.Output.{PutFailed, Delivers, TellsAnswer}
use Rattle.outcome_terms.specs.Call.{Ends, row_behind, row, IsRefused, may_change, SparesBlobs, TellsWhole, HasEffect, KeepsOutput, StatusCauses, GetsSoFar}
use Rattle.outcome_terms.proofs.Following.{over_told}
use Rattle.outcome_terms.proofs.Rows.{make_within, withdraw_within, enrol_within, accuse_within, sample_within}
use Rattle.outcome_terms.proofs.TitleRows.{title_within, package_within, trace_within, check_within}
use Rattle.outcome_terms.proofs.Performing.{Gives, Stands, performs_none_fell, performs_caused, performs_asks, performs_asked, performs_writes, performs_known, performs_gives, performs_only, performs_kept, performs_put_kept, performs_spared, performs_leaves, performs_stands, put_within, write_within, write_puts_none, keeps_blobs}

-- ---- statuses of refusals

-- a status that is not of what words or blobs say
is_general : Status → Bool
is_general status.Ok = true
is_general status.Memory = true
is_general status.BadWords = true
is_general status.Missing = true
is_general status.ReadFault = true
is_general status.WriteFault = true
is_general status.OutFault = true
is_general status.TooLong = true
is_general s = false

content_is_not : (f : Fault) → is_general (fault_line f).status ≡ false
unfolding is_general
content_is_not (fault.BadRegister at) = refl
content_is_not (fault.NotEnrolled names.BadName) = refl
content_is_not (fault.NotEnrolled (names.NameTaken serial)) = refl
content_is_not (fault.NotEnrolled (names.Full licensees)) = refl
content_is_not _ = refl

never : {X : Type 0} → true ≡ false → X
never h = cc

not_content : {X : Type 0} (f : Fault) (s : Status) → is_general s ≡ true → (fault_line f).status ≡ s → X
not_content f s general is = never (sym general ∙ ap is_general (sym is) ∙ content_is_not f)

bad_words_of : (e : Refusal) → refusal_status e ≡ status.BadWords → e ≡ refusal.BadWords
unfolding is_general
bad_words_of refusal.BadWords is = refl
bad_words_of (refusal.Content f) is = not_content f _ refl is
bad_words_of _ is = cc

never_done : (e : Refusal) → refusal_status e ≡ status.Ok → ⊥
unfolding is_general
never_done (refusal.Content f) is = not_content f _ refl is
never_done refusal.Memory is = cc
never_done _ is = cc

never_out_fault : (e : Refusal) → refusal_status e ≡ status.OutFault → ⊥
unfolding is_general
never_out_fault (refusal.Content f) is = not_content f _ refl is
never_out_fault refusal.Memory is = cc
never_out_fault _ is = cc

record Unread (e : Refusal) : Type 0 where
  name : List ℕ
  is : e ≡ refusal.ReadFault name

unread_of : (e : Refusal) → refusal_status e ≡ status.ReadFault → Unread e
unfolding is_general
unread_of (refusal.ReadFault name) is = record { name = name; is = refl }
unread_of (refusal.Content f) is = not_content f _ refl is
unread_of _ is = cc

record Unwritten (e : Refusal) : Type 0 where
  name : List ℕ
  is : e ≡ refusal.WriteFault name

unwritten_of : (e : Refusal) → refusal_status e ≡ status.WriteFault → Unwritten e
unfolding is_general
unwritten_of (refusal.WriteFault name) is = record { name = name; is = refl }
unwritten_of (refusal.Content f) is = not_content f _ refl is
unwritten_of _ is = cc

refusal_causes : (old new : Tally) (rose : Type 0) (e : Refusal) → NoneFell old new → Caused old new e → StatusCauses old new rose (refusal_status e)
unfolding is_general
refusal_causes old new rose (refusal.Content f) fell h =
    record { missing = not_content f _ refl; read_fault = not_content f _ refl; write_fault = not_content f _ refl; out_fault = not_content f _ refl; none_fell = fell }
refusal_causes old new rose (refusal.Missing name) fell h = record { missing = λ _. h; read_fault = λ is. cc; write_fault = λ is. cc; out_fault = λ is. cc; none_fell = fell }
refusal_causes old new rose (refusal.ReadFault name) fell h = record { missing = λ is. cc; read_fault = λ _. h.0; write_fault = λ is. cc; out_fault = λ is. cc; none_fell = fell }
refusal_causes old new rose (refusal.WriteFault name) fell h = record { missing = λ is. cc; read_fault = λ is. cc; write_fault = λ _. h; out_fault = λ is. cc; none_fell = fell }
refusal_causes old new rose _ fell h = record { missing = λ is. cc; read_fault = λ is. cc; write_fault = λ is. cc; out_fault = λ is. cc; none_fell = fell }

-- ---- the status of an answer

abbrev pub EndsWith : Result (Option (List ℕ)) Refusal → Status → Type 0 → Type 0
EndsWith (Ok (Some text)) s rose = (s ≡ status.Ok) ⊎ (((s ≡ status.OutFault) × rose) ⊎ (s ≡ status.Memory))
EndsWith (Ok None) s rose = s ≡ status.Ok
EndsWith (Err e) s rose = (s ≡ refusal_status e) ⊎ (s ≡ status.Memory)

pub ends_with : (answer : Result (Option (List ℕ)) Refusal) (s : Status) (before after : Output) → Delivers answer s before after → EndsWith answer s (PutFailed before after)
ends_with (Ok (Some text)) s before after d = d.ends
ends_with (Ok None) s before after d = d.ends
ends_with (Err e) s before after d = d.ends

free_no_more : {X : Type 0} (s t : Status) → s ≡ t → is_free_status t ≡ true → is_free_status s ≡ false → X
free_no_more s t is free decided = never (sym free ∙ ap is_free_status (sym is) ∙ decided)

ok_status : (wanted : Result Effect Refusal) → IsOk wanted → outcome_status wanted ≡ status.Ok
ok_status (Ok effect) h = refl
ok_status (Err e) h = cc

refusal_decided : (e : Refusal) (s : Status) (wanted : Result Effect Refusal) → s ≡ refusal_status e → Gives (Err e) wanted → is_free_status s ≡ false → s ≡ outcome_status wanted
refusal_decided refusal.Memory s wanted is g decided = free_no_more s status.Memory is refl decided
refusal_decided (refusal.ReadFault name) s wanted is g decided = free_no_more s status.ReadFault is refl decided
refusal_decided (refusal.WriteFault name) s wanted is g decided = free_no_more s status.WriteFault is refl decided
refusal_decided refusal.BadWords s wanted is g decided = is ∙ sym (ap outcome_status g)
refusal_decided (refusal.Missing name) s wanted is g decided = is ∙ sym (ap outcome_status g)
refusal_decided (refusal.TooLong name) s wanted is g decided = is ∙ sym (ap outcome_status g)
refusal_decided (refusal.Content f) s wanted is g decided = is ∙ sym (ap outcome_status g)

decided_status : (answer : Result (Option (List ℕ)) Refusal) (s : Status) (rose : Type 0) (wanted : Result Effect Refusal) → EndsWith answer s rose → Gives answer wanted → is_free_status s ≡ false → s ≡ outcome_status wanted
decided_status (Ok (Some text)) s rose wanted (inl ok) g decided = ok ∙ sym (ap outcome_status g)
decided_status (Ok (Some text)) s rose wanted (inr (inl fault)) g decided = free_no_more s status.OutFault fault.0 refl decided
decided_status (Ok (Some text)) s rose wanted (inr (inr memory)) g decided = free_no_more s status.Memory memory refl decided
decided_status (Ok None) s rose wanted ok g decided = ok ∙ sym (ok_status wanted g)
decided_status (Err e) s rose wanted (inl is) g decided = refusal_decided e s wanted is g decided
decided_status (Err e) s rose wanted (inr memory) g decided = free_no_more s status.Memory memory refl decided

plain_causes : (old new : Tally) (rose : Type 0) (s : Status) → NoneFell old new → (s ≡ status.Ok) ⊎ (s ≡ status.Memory) → StatusCauses old new rose s
plain_causes old new rose s fell (inl ok) = record { missing = λ is. cc; read_fault = λ is. cc; write_fault = λ is. cc; out_fault = λ is. cc; none_fell = fell }
plain_causes old new rose s fell (inr memory) = record { missing = λ is. cc; read_fault = λ is. cc; write_fault = λ is. cc; out_fault = λ is. cc; none_fell = fell }

status_causes : (answer : Result (Option (List ℕ)) Refusal) (s : Status) (rose : Type 0) (old new : Tally) → EndsWith answer s rose → NoneFell old new → IfErr answer (Caused old new) → StatusCauses old new rose s
status_causes (Ok (Some text)) s rose old new (inl ok) fell h = plain_causes old new rose s fell (inl ok)
status_causes (Ok (Some text)) s rose old new (inr (inl fault)) fell h =
    let is = fault.0 in record { missing = λ is. cc; read_fault = λ is. cc; write_fault = λ is. cc; out_fault = λ _. fault.1; none_fell = fell }
status_causes (Ok (Some text)) s rose old new (inr (inr memory)) fell h = plain_causes old new rose s fell (inr memory)
status_causes (Ok None) s rose old new ok fell h = plain_causes old new rose s fell (inl ok)
status_causes (Err e) s rose old new (inl is) fell h = subst (StatusCauses old new rose) (sym is) (refusal_causes old new rose e fell h)
status_causes (Err e) s rose old new (inr memory) fell h = plain_causes old new rose s fell (inr memory)

calm : (s : Status) (old new : Tally) (rose : Type 0) → StatusCauses old new rose s → (Rose old.faults new.faults → ⊥) → (Rose old.write_faults new.write_faults → ⊥) → (rose → ⊥) → s ≢ status.Memory → is_free_status s ≡ false
calm status.Memory old new rose h r w o m = absurd (m refl)
calm status.ReadFault old new rose h r w o m = absurd (r (h.read_fault refl))
calm status.WriteFault old new rose h r w o m = absurd (w (h.write_fault refl))
calm status.OutFault old new rose h r w o m = absurd (o (h.out_fault refl))
calm status.Ok old new rose h r w o m = refl
calm _ old new rose h r w o m = refl

bad_words_answer : (answer : Result (Option (List ℕ)) Refusal) (s : Status) (rose : Type 0) → EndsWith answer s rose → s ≡ status.BadWords → answer ≡ Err refusal.BadWords
bad_words_answer (Ok (Some text)) s rose (inl ok) is = cc
bad_words_answer (Ok (Some text)) s rose (inr (inl fault)) is = let h = fault.0 in cc
bad_words_answer (Ok (Some text)) s rose (inr (inr memory)) is = cc
bad_words_answer (Ok None) s rose ok is = cc
bad_words_answer (Err e) s rose (inl as_status) is = ap Err (bad_words_of e (sym as_status ∙ is))
bad_words_answer (Err e) s rose (inr memory) is = cc

deed_known : (request : Option Request) → deed request ≡ Nothing → request ≡ None
deed_known None is = refl
deed_known (Some (Make m k a b out)) is = cc
deed_known (Some (Enrol register name out)) is = cc
deed_known (Some (Withdraw register name out)) is = cc
deed_known (Some (MakeTitle design source out)) is = cc
deed_known (Some (Package name register licensee out)) is = cc
deed_known (Some (Trace name register copy c)) is = cc
deed_known (Some (Check name register copy reported)) is = cc
deed_known (Some (Accuse register word c)) is = cc
deed_known (Some (Sample number)) is = cc

-- ---- rows

one_of_two : (a n : ℕ) → list_any (λ k. k == n) (a ∷ n ∷ []) ≡ true
one_of_two a n = go (a == n) (n == n) (eq-eqb n n refl)
  where
    go : (b c : Bool) → c ≡ true → (b || (c || false)) ≡ true
    go true c is = refl
    go false c is = ap (λ c. c || false) is

stood_row : {s t : Store} (answer : Result (Option (List ℕ)) Refusal) (st : Status) (rose : Type 0) (e : Refusal) (later : List ℕ) → Stands s t answer e → EndsWith answer st rose → may_end (row_behind (Some e) later) st ≡ true
stood_row answer st rose e later h ends = by (answer_status answer st rose e h.is ends)
  where
    answer_status : (answer : Result (Option (List ℕ)) Refusal) (st : Status) (rose : Type 0) (e : Refusal) → (answer ≡ Err e) ⊎ (answer ≡ Err refusal.Memory) → EndsWith answer st rose → (st ≡ refusal_status e) ⊎ (st ≡ status.Memory)
    answer_status (Ok (Some text)) st rose e (inl is) ends = cc
    answer_status (Ok (Some text)) st rose e (inr is) ends = cc
    answer_status (Ok None) st rose e (inl is) ends = cc
    answer_status (Ok None) st rose e (inr is) ends = cc
    answer_status (Err f) st rose e is (inr memory) = inr memory
    answer_status (Err f) st rose e (inl is) (inl ends) = let same : f ≡ e = cc in inl (ends ∙ ap refusal_status same)
    answer_status (Err f) st rose e (inr is) (inl ends) = let same : f ≡ refusal.Memory = cc in inr (ends ∙ ap refusal_status same)

    by : (st ≡ refusal_status e) ⊎ (st ≡ status.Memory) → may_end (row_behind (Some e) later) st ≡ true
    by (inl is) = ap (λ s. may_end (1 ∷ status_code (refusal_status e) ∷ []) s) is ∙ one_of_two 1 (status_code (refusal_status e))
    by (inr is) = ap (λ s. may_end (1 ∷ status_code (refusal_status e) ∷ []) s) is

put_row : {reading : Reading (List ℕ)} {s t : Store} (answer : Result (Option (List ℕ)) Refusal) (st : Status) (rose : Type 0) (may : Status → Bool) → may status.Ok ≡ true → may status.Memory ≡ true → may status.OutFault ≡ true
    → Within may reading → Performs (Put reading) s t answer → EndsWith answer st rose → may st ≡ true
put_row (Ok (Some text)) st rose may ok memory fault h p (inl is) = ap may is ∙ ok
put_row (Ok (Some text)) st rose may ok memory fault h p (inr (inl is)) = ap may is.0 ∙ fault
put_row (Ok (Some text)) st rose may ok memory fault h p (inr (inr is)) = ap may is ∙ memory
put_row (Ok None) st rose may ok memory fault h p is = ap may is ∙ ok
put_row (Err e) st rose may ok memory fault h p (inl is) = ap may is ∙ put_within may memory h p
put_row (Err e) st rose may ok memory fault h p (inr is) = ap may is ∙ memory

write_row : {out : List ℕ} {reading : Reading Writing} {s t : Store} (answer : Result (Option (List ℕ)) Refusal) (st : Status) (rose : Type 0) (may : Status → Bool) → may status.Ok ≡ true → may status.Memory ≡ true → may status.WriteFault ≡ true
    → Within may reading → Performs (Write out reading) s t answer → EndsWith answer st rose → may st ≡ true
write_row (Ok (Some text)) st rose may ok memory fault h p is = write_puts_none p
write_row (Ok None) st rose may ok memory fault h p is = ap may is ∙ ok
write_row (Err e) st rose may ok memory fault h p (inl is) = ap may is ∙ write_within may memory fault h p
write_row (Err e) st rose may ok memory fault h p (inr is) = ap may is ∙ memory

by_words : (d : Deed) {s t : Store} (answer : Result (Option (List ℕ)) Refusal) (st : Status) (rose : Type 0) (later : List ℕ) → Performs d s t answer → EndsWith answer st rose
    → (refused_by_words d ≡ None → may_end later st ≡ true) → may_end (row_behind (refused_by_words d) later) st ≡ true
by_words d {s} {t} answer st rose later p ends h = go (refused_by_words d) refl
  where
    go : (o : Option Refusal) → refused_by_words d ≡ o → may_end (row_behind o later) st ≡ true
    go None is = h is
    go (Some e) is = stood_row answer st rose e later (performs_stands e is p) ends

status_row : (request : Option Request) {s t : Store} (answer : Result (Option (List ℕ)) Refusal) (st : Status) (rose : Type 0) → Performs (deed request) s t answer → EndsWith answer st rose → may_end (row request) st ≡ true
status_row None answer st rose p ends = by_words Nothing answer st rose [] p ends (λ is. cc)
status_row (Some (Make m k a b out)) answer st rose p ends =
    by_words (Write out (make m k a b)) answer st rose make_statuses p ends (λ is. write_row answer st rose (may_end make_statuses) refl refl refl (make_within m k a b is) p ends)
status_row (Some (Enrol register name out)) answer st rose p ends =
    by_words (Write out (enrol register name out)) answer st rose enrol_statuses p ends (λ is. write_row answer st rose (may_end enrol_statuses) refl refl refl (enrol_within register name out is) p ends)
status_row (Some (Withdraw register name out)) answer st rose p ends =
    by_words (Write out (withdraw register name out)) answer st rose withdraw_statuses p ends (λ is. write_row answer st rose (may_end withdraw_statuses) refl refl refl (withdraw_within register name out is) p ends)
status_row (Some (MakeTitle design source out)) answer st rose p ends =
    by_words (Write out (title design source out)) answer st rose title_statuses p ends (λ is. write_row answer st rose (may_end title_statuses) refl refl refl (title_within design source out is) p ends)
status_row (Some (Package name register licensee out)) answer st rose p ends =
    by_words (Write out (package_ name register licensee out)) answer st rose package_statuses p ends (λ is. write_row answer st rose (may_end package_statuses) refl refl refl (package_within name register licensee out is) p ends)
status_row (Some (Trace name register copy c)) answer st rose p ends =
    by_words (Put (trace name register copy c)) answer st rose trace_statuses p ends (λ is. put_row answer st rose (may_end trace_statuses) refl refl refl (trace_within name register copy c) p ends)
status_row (Some (Check name register copy reported)) answer st rose p ends =
    by_words (Put (check name register copy reported)) answer st rose check_statuses p ends (λ is. put_row answer st rose (may_end check_statuses) refl refl refl (check_within name register copy reported) p ends)
status_row (Some (Accuse register word c)) answer st rose p ends =
    by_words (Put (accuse register word c)) answer st rose accuse_statuses p ends (λ is. put_row answer st rose (may_end accuse_statuses) refl refl refl (accuse_within register word c) p ends)
status_row (Some (Sample number)) answer st rose p ends =
    by_words (Put (sample number)) answer st rose sample_statuses p ends (λ is. put_row answer st rose (may_end sample_statuses) refl refl refl (sample_within number is) p ends)

-- ---- what the words refuse

refused_ends : {s t : Store} (answer : Result (Option (List ℕ)) Refusal) (st : Status) (rose : Type 0) (e : Refusal) → Stands s t answer e → EndsWith answer st rose → IsRefused e st s t
refused_ends (Ok (Some text)) st rose e h ends = elim h.is [ inl is ↦ cc | inr is ↦ cc ]
refused_ends (Ok None) st rose e h ends = elim h.is [ inl is ↦ cc | inr is ↦ cc ]
refused_ends (Err f) st rose e h (inr memory) = record { ends = inr memory; untouched = h.same }
refused_ends (Err f) st rose e h (inl is) = record {
  ends = elim h.is [ inl same ↦ inl (is ∙ ap refusal_status (let g : f ≡ e = cc in g)) | inr same ↦ inr (is ∙ ap refusal_status (let g : f ≡ refusal.Memory = cc in g)) ];
  untouched = h.same;
}

words_refuse : (d : Deed) {s t : Store} (answer : Result (Option (List ℕ)) Refusal) (st : Status) (rose : Type 0) → Performs d s t answer → EndsWith answer st rose → IfSome (refused_by_words d) (λ e. IsRefused e st s t)
words_refuse d {s} {t} answer st rose p ends = go (refused_by_words d) refl
  where
    go : (o : Option Refusal) → refused_by_words d ≡ o → IfSome o (λ e. IsRefused e st s t)
    go None is = tt
    go (Some e) is = refused_ends answer st rose e (performs_stands e is p) ends

-- ---- blobs

changes_no_more : {X : Type 0} (s t : Status) → s ≡ t → may_change t ≡ true → may_change s ≡ false → X
changes_no_more s t is may h = never (sym may ∙ ap may_change (sym is) ∙ h)

refusal_keeps : (e : Refusal) (s : Status) → s ≡ refusal_status e → may_change s ≡ false → keeps_blobs e ≡ true
refusal_keeps refusal.Memory s is h = changes_no_more s status.Memory is refl h
refusal_keeps (refusal.WriteFault name) s is h = changes_no_more s status.WriteFault is refl h
refusal_keeps refusal.BadWords s is h = refl
refusal_keeps (refusal.Missing name) s is h = refl
refusal_keeps (refusal.ReadFault name) s is h = refl
refusal_keeps (refusal.TooLong name) s is h = refl
refusal_keeps (refusal.Content f) s is h = refl

status_keeps : {d : Deed} {s t : Store} (answer : Result (Option (List ℕ)) Refusal) (st : Status) (rose : Type 0) → Performs d s t answer → EndsWith answer st rose → may_change st ≡ false → t.told ≡ s.told
status_keeps (Ok (Some text)) st rose p ends h = performs_put_kept p
status_keeps (Ok None) st rose p ok h = changes_no_more st status.Ok ok refl h
status_keeps (Err e) st rose p (inl is) h = performs_kept p (refusal_keeps e st is h)
status_keeps (Err e) st rose p (inr memory) h = changes_no_more st status.Memory memory refl h

-- ---- the effect

pub whole_told : (s : Status) (text : List ℕ) (old new : Option (List ℕ)) → s ≡ status.Ok → TellsAnswer s text old new → TellsWhole text old new
whole_told s text (Some old) (Some new) ok h = h.whole ok
whole_told s text None None ok h = tt
whole_told s text None (Some new) ok h = h
whole_told s text (Some old) None ok h = h

effect_of : (wanted : Result Effect Refusal) (blobs : Blobs) (told : Option Blobs) (left : Option (List ℕ)) (s : Status) (before after : Output) → s ≡ status.Ok → LeavesEffect wanted blobs told left → Delivers (Ok left) s before after
    → HasEffect wanted blobs told before after
effect_of (Ok (Puts text)) blobs told (Some put) s before after ok h d =
    let same : put ≡ text = let is = h.1 in cc in (h.0, subst (λ t. TellsWhole t before.written after.written) same (whole_told s put before.written after.written ok d.out))
effect_of (Ok (Puts text)) blobs told None s before after ok h d = let is = h.1 in cc
effect_of (Ok (Wrote out writing)) blobs told (Some put) s before after ok h d = let is = h.1 in cc
effect_of (Ok (Wrote out writing)) blobs told None s before after ok h d = (h.0, d.same)
effect_of (Err e) blobs told left s before after ok h d = absurd h

pub refusal_not_done : {X : Type 0} (e : Refusal) (s : Status) (rose : Type 0) → EndsWith (Err e) s rose → s ≡ status.Ok → X
refusal_not_done e s rose (inl is) ok = absurd (never_done e (sym is ∙ ok))
refusal_not_done e s rose (inr memory) ok = let no : status.Memory ≡ status.Ok = sym memory ∙ ok in cc

has_effect : {d : Deed} {s t : Store} (answer : Result (Option (List ℕ)) Refusal) (st : Status) (before after : Output) (blobs : Blobs) → s.told ≡ Some blobs → Performs d s t answer → Delivers answer st before after → st ≡ status.Ok
    → HasEffect (outcome_of d blobs) blobs t.told before after
has_effect {d} {s} {t} (Ok left) st before after blobs is p delivered ok = effect_of (outcome_of d blobs) blobs t.told left st before after ok (performs_leaves blobs is p) delivered
has_effect {d} {s} {t} (Err e) st before after blobs is p delivered ok = refusal_not_done e st (PutFailed before after) (ends_with (Err e) st before after delivered) ok

-- ---- the output of a command that writes

refusal_never_out : (e : Refusal) (s : Status) (rose : Type 0) → EndsWith (Err e) s rose → s ≢ status.OutFault
refusal_never_out e s rose (inl is) fault = never_out_fault e (sym is ∙ fault)
refusal_never_out e s rose (inr memory) fault = let no : status.Memory ≡ status.OutFault = sym memory ∙ fault in cc

done_is_no_fault : (s : Status) → s ≡ status.Ok → s ≢ status.OutFault
done_is_no_fault s ok fault = let no : status.Ok ≡ status.OutFault = sym ok ∙ fault in cc

keeps_output : {d : Deed} {s t : Store} {answer : Result (Option (List ℕ)) Refusal} (st : Status) (before after : Output) → Performs d s t answer → Delivers answer st before after → KeepsOutput (written_name d) st before after
keeps_output st before after unknown delivered = tt
keeps_output st before after (made p) delivered = tt
keeps_output st before after (not_made p) delivered = tt
keeps_output st before after (wrote p is w) delivered = (done_is_no_fault st delivered.ends, λ _. delivered.same)
keeps_output st before after (stopped {e = e} p) delivered = (refusal_never_out e st (PutFailed before after) delivered.ends, λ ok. refusal_not_done e st (PutFailed before after) delivered.ends ok)
keeps_output st before after (lost {e = e} p is w) delivered = (refusal_never_out e st (PutFailed before after) delivered.ends, λ ok. refusal_not_done e st (PutFailed before after) delivered.ends ok)

-- ---- failures outside

record FailedRead (answer : Result (Option (List ℕ)) Refusal) : Type 0 where
  name : List ℕ
  is : answer ≡ Err (refusal.ReadFault name)

failed_read : (answer : Result (Option (List ℕ)) Refusal) (s : Status) (rose : Type 0) → EndsWith answer s rose → s ≡ status.ReadFault → FailedRead answer
failed_read (Ok (Some text)) s rose (inl ok) is = cc
failed_read (Ok (Some text)) s rose (inr (inl fault)) is = let h = fault.0 in cc
failed_read (Ok (Some text)) s rose (inr (inr memory)) is = cc
failed_read (Ok None) s rose ok is = cc
failed_read (Err e) s rose (inl as_status) is = let u = unread_of e (sym as_status ∙ is) in record { name = u.name; is = ap Err u.is }
failed_read (Err e) s rose (inr memory) is = cc

record FailedWrite (answer : Result (Option (List ℕ)) Refusal) : Type 0 where
  name : List ℕ
  is : answer ≡ Err (refusal.WriteFault name)

failed_write : (answer : Result (Option (List ℕ)) Refusal) (s : Status) (rose : Type 0) → EndsWith answer s rose → s ≡ status.WriteFault → FailedWrite answer
failed_write (Ok (Some text)) s rose (inl ok) is = cc
failed_write (Ok (Some text)) s rose (inr (inl fault)) is = let h = fault.0 in cc
failed_write (Ok (Some text)) s rose (inr (inr memory)) is = cc
failed_write (Ok None) s rose ok is = cc
failed_write (Err e) s rose (inl as_status) is = let u = unwritten_of e (sym as_status ∙ is) in record { name = u.name; is = ap Err u.is }
failed_write (Err e) s rose (inr memory) is = cc

-- ---- the whole

module _ {words : List (List ℕ)} {old new : Store} {s : Status} {before after : Output} (ends : Ends words old new s before after) where
  answered : EndsWith ends.answer s (PutFailed before after)
  answered = ends_with ends.answer s before after ends.delivered

  command : Deed
  command = deed (request_of words)

  pub ends_bad_words : s ≡ status.BadWords → request_of words ≡ None
  ends_bad_words is =
      deed_known (request_of words) (performs_known (subst (Performs (deed (request_of words)) old new) (bad_words_answer ends.answer s (PutFailed before after) answered is) ends.performed))

  pub ends_row : may_end (row (request_of words)) s ≡ true
  ends_row = status_row (request_of words) ends.answer s (PutFailed before after) ends.performed answered

  pub ends_words : IfSome (refused_by_words (deed (request_of words))) (λ e. IsRefused e s old new)
  ends_words = words_refuse (deed (request_of words)) ends.answer s (PutFailed before after) ends.performed answered

  pub ends_decided : IfSome old.told (λ blobs. is_free_status s ≡ false → s ≡ outcome_status (outcome words blobs))
  ends_decided = over_told old.told (λ blobs is. decided_status ends.answer s (PutFailed before after) (outcome words blobs) answered (performs_gives blobs is ends.performed))

  answer_caused : (answer : Result (Option (List ℕ)) Refusal) → Performs (deed (request_of words)) old new answer → IfErr answer (Caused old.counts new.counts)
  answer_caused (Ok left) p = tt
  answer_caused (Err e) p = performs_caused p

  pub ends_causes : StatusCauses old.counts new.counts (PutFailed before after) s
  ends_causes = status_causes ends.answer s (PutFailed before after) old.counts new.counts answered (performs_none_fell ends.performed) (answer_caused ends.answer ends.performed)

  pub ends_complete : (Rose old.counts.faults new.counts.faults → ⊥) → (Rose old.counts.write_faults new.counts.write_faults → ⊥) → (PutFailed before after → ⊥)
      → IfSome old.told (λ blobs. s ≢ status.Memory → s ≡ outcome_status (outcome words blobs))
  ends_complete r w o = over_told old.told (λ blobs is memory.
      decided_status ends.answer s (PutFailed before after) (outcome words blobs) answered (performs_gives blobs is ends.performed)
      (calm s old.counts new.counts (PutFailed before after) ends_causes r w o memory))

  pub ends_blobs : SparesBlobs (deed (request_of words)) s old.told new.told
  ends_blobs = record {
    others = performs_only ends.performed;
    kept = status_keeps ends.answer s (PutFailed before after) ends.performed answered;
    refused = over_told old.told (λ blobs is. performs_spared blobs is ends.performed);
  }

  pub ends_effect : s ≡ status.Ok → IfSome old.told (λ blobs. HasEffect (outcome words blobs) blobs new.told before after)
  ends_effect ok = over_told old.told (λ blobs is. has_effect ends.answer s before after blobs is ends.performed ends.delivered ok)

  pub ends_output : KeepsOutput (written_name (deed (request_of words))) s before after
  ends_output = keeps_output s before after ends.performed ends.delivered

  read_failed : s ≡ status.ReadFault → (name : List ℕ) × Performs (deed (request_of words)) old new (Err (refusal.ReadFault name))
  read_failed is = let f = failed_read ends.answer s (PutFailed before after) answered is in (f.name, subst (Performs (deed (request_of words)) old new) f.is ends.performed)

  write_failed : s ≡ status.WriteFault → (name : List ℕ) × Performs (deed (request_of words)) old new (Err (refusal.WriteFault name))
  write_failed is = let f = failed_write ends.answer s (PutFailed before after) answered is in (f.name, subst (Performs (deed (request_of words)) old new) f.is ends.performed)

  pub ends_so_far : GetsSoFar (deed (request_of words)) old new s
  ends_so_far = record {
    reads = λ is. let f = read_failed is in subst (DeedAsks (deed (request_of words))) (sym (performs_caused f.1).1) (performs_asks f.1);
    reads_told = λ is. let f = read_failed is in over_told old.told (λ blobs told. subst (λ name. Contains (deed_names (deed (request_of words)) blobs) name) (sym (performs_caused f.1).1) (performs_asked blobs told f.1));
    writes = λ is. let f = write_failed is in (f.0, performs_writes f.1);
    writes_told = λ is. let f = write_failed is in over_told old.told (λ blobs told. performs_gives blobs told f.1);
  }
