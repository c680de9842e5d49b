-- What was performed over a store was performed over blobs that agree with what the store gave and took.
use Rattle.std.proofs.Common.{◌≡◌, ◌∙◌, ℕ, ◌≤◌, ◌<◌, List, [], ◌∷◌, ◌++◌, length, append_assoc, append-nil, Bool, true, false, cond, Option, Some, None, Result, Ok, Err, refl, sym, ap, subst, arith}
use Rattle.std.specs.Prelude.{nat_le}
use Rattle.std.specs.FinMap.{insert}
use Rattle.std.proofs.lemmas.Bool.Decides.{nat_tests}
use Rattle.shelf_terms.specs.declared.limit.TheConstants.{BLOB_LIMIT}
use Rattle.shelf_terms.specs.Blobs.{Blobs, blob_at, SameBut}
use Rattle.records.specs.Events.{Event, Took, Refused}
use Rattle.records.specs.Stores.{Store, Output}
use Rattle.records.specs.Agreement.{Agrees, AgreesBetween, supposing}
use Rattle.records.specs.Parts.{Came}
use Rattle.records.proofs.Agreeing.{split, reads_keep, whole_is, longer_is, missed_is, join, whole_agrees}
use Rattle.outcome_terms.specs.declared.status.Status.{Status}
use Rattle.outcome_terms.specs.declared.refusal.Refusal.{Refusal}
use Rattle.outcome_terms.specs.declared.refusal.Refusal.TheVariants as refusal
use Rattle.outcome_terms.specs.Reading.{Reading, Read, within_limit, read_blob}
use Rattle.outcome_terms.specs.Stores.{Answers, OfRead, ReadIs, Reads, Follows, gave, refused, went_on, failed, no_memory, Writing, IsWriting, Writes}
use Rattle.outcome_terms.specs.Commands.{Deed, Nothing, Put, Write}
use Rattle.outcome_terms.specs.Outcome.{Performs, unknown, made, not_made, wrote, stopped, lost}
use Rattle.outcome_terms.specs.Call.{Ends}
use Rattle.outcome_terms.specs.Replays.{Got, AreReads, none, more, Replays, ReadSo, Hold}

-- ---- one read

short_held : (name : List ℕ) (found : Option (List ℕ)) (bytes : List ℕ) → found ≡ Some bytes → length bytes ≤ BLOB_LIMIT → within_limit name found ≡ Ok bytes
short_held name found bytes is short =
    let so : nat_le (length bytes) BLOB_LIMIT ≡ true = grind (arith, nat_tests) in
    ap (within_limit name) is ∙ ap (λ (b : Bool). cond b (Ok bytes) (Err (refusal.TooLong name))) so

long_held : (name : List ℕ) (found : Option (List ℕ)) (bytes : List ℕ) → found ≡ Some bytes → BLOB_LIMIT < length bytes → within_limit name found ≡ Err (refusal.TooLong name)
long_held name found bytes is long =
    let no : nat_le (length bytes) BLOB_LIMIT ≡ false = grind (arith, nat_tests) in
    ap (within_limit name) is ∙ ap (λ (b : Bool). cond b (Ok bytes) (Err (refusal.TooLong name))) no

answered : (name : List ℕ) (answer : Result (List ℕ) Refusal) (blobs : Blobs) (events : List Event) (after : Blobs) → (h : ReadIs name answer events) → ((e : Refusal) → answer ≡ Err e → OfRead name e) → Agrees blobs events after → Answers answer (read_blob blobs name)
answered name (Ok bytes) blobs events after h of agrees = short_held name (blob_at blobs name) bytes (whole_is name blobs bytes events after h.0 agrees) h.1
answered name (Err (refusal.TooLong long)) blobs events after h of agrees =
    let l = longer_is name blobs BLOB_LIMIT events after h agrees in
    long_held name (blob_at blobs name) l.blob l.held l.longer ∙ ap (λ n. Err (refusal.TooLong n)) (sym (of (refusal.TooLong long) refl))
answered name (Err (refusal.Missing missing)) blobs events after h of agrees =
    ap (within_limit name) (missed_is name blobs events after h agrees) ∙ ap (λ n. Err (refusal.Missing n)) (sym (of (refusal.Missing missing) refl))
answered name (Err (refusal.ReadFault unread)) blobs events after h of agrees = tt
answered name (Err refusal.Memory) blobs events after h of agrees = tt
answered name (Err (refusal.WriteFault unwritten)) blobs events after h of agrees = tt
answered name (Err refusal.BadWords) blobs events after h of agrees = absurd (of refusal.BadWords refl)
answered name (Err (refusal.Content fault)) blobs events after h of agrees = absurd (of (refusal.Content fault) refl)

of_err : (name : List ℕ) (s t : Store) (answer : Result (List ℕ) Refusal) → Reads name s t answer → (e : Refusal) → answer ≡ Err e → OfRead name e
of_err name s t (Ok bytes) r e is = cc
of_err name s t (Err f) r e is = let same : f ≡ e = cc in subst (OfRead name) same r.of_read

reads_supposed : {name : List ℕ} {s t : Store} {answer : Result (List ℕ) Refusal} (r : Reads name s t answer) (blobs after : Blobs) → Agrees blobs r.came.events after → Reads name (supposing blobs s) (supposing blobs t) answer
reads_supposed {name} {s} {t} {answer} r blobs after agrees = record {
  kept = refl;
  none_fell = r.none_fell;
  caused = r.caused;
  of_read = r.of_read;
  came = r.came;
  decided = answered name answer blobs r.came.events after r.came.is (of_err name s t answer r) agrees;
}

-- ---- a reading

-- what was given on the way, and that the reading is followed over all blobs that agree with it
pub record Heard {A : Type 0} (reading : Reading A) (s t : Store) (answer : Result A Refusal) : Type 0 where
  pub events : List Event
  pub is : t.events ≡ s.events ++ events
  pub keeps : (blobs after : Blobs) → Agrees blobs events after → after ≡ blobs
  pub follows : (blobs after : Blobs) → Agrees blobs events after → Follows reading (supposing blobs s) (supposing blobs t) answer

none_agree : (blobs after : Blobs) → Agrees blobs [] after → after ≡ blobs
unfolding Agrees
none_agree blobs after h = h

nothing_heard : {A : Type 0} {reading : Reading A} {s : Store} {answer : Result A Refusal} → ((blobs : Blobs) → Follows reading (supposing blobs s) (supposing blobs s) answer) → Heard reading s s answer
nothing_heard {s = s} f = record { events = []; is = sym (append-nil s.events); keeps = none_agree; follows = λ blobs after h. f blobs }

pub heard : {A : Type 0} {reading : Reading A} {s t : Store} {answer : Result A Refusal} → Follows reading s t answer → Heard reading s t answer
heard gave = nothing_heard (λ blobs. gave)
heard refused = nothing_heard (λ blobs. refused)
heard no_memory = nothing_heard (λ blobs. no_memory)
heard (failed {name = name} r) = record {
  events = r.came.events;
  is = r.came.after;
  keeps = λ blobs after h. reads_keep name blobs r.came.events after r.came.reads h;
  follows = λ blobs after h. failed (reads_supposed r blobs after h);
}
heard (went_on {name = name} {next = next} {s = s} {bytes = bytes} r p) =
    let rest = heard p in
    record {
      events = r.came.events ++ rest.events;
      is = rest.is ∙ ap (λ g. g ++ rest.events) r.came.after ∙ append_assoc s.events r.came.events rest.events;
      keeps = λ blobs after h.
          let two = split blobs r.came.events rest.events after h in
          rest.keeps two.between after two.after ∙ reads_keep name blobs r.came.events two.between r.came.reads two.before;
      follows = λ blobs after h.
          let two = split blobs r.came.events rest.events after h in
          let same = reads_keep name blobs r.came.events two.between r.came.reads two.before in
          went_on (reads_supposed r blobs two.between two.before) (rest.follows blobs after (subst (λ m. Agrees m rest.events after) same two.after));
    }

-- ---- a command

pub record HeardDeed (d : Deed) (s t : Store) (answer : Result (Option (List ℕ)) Refusal) : Type 0 where
  pub events : List Event
  pub is : t.events ≡ s.events ++ events
  pub performs : (blobs after : Blobs) → Agrees blobs events after → Performs d (supposing blobs s) (supposing after t) answer

-- a command that only reads
by_reading : {A : Type 0} {reading : Reading A} {d : Deed} {s t : Store} {answer : Result A Refusal} {left : Result (Option (List ℕ)) Refusal} → Heard reading s t answer
    → ((blobs : Blobs) → Follows reading (supposing blobs s) (supposing blobs t) answer → Performs d (supposing blobs s) (supposing blobs t) left) → HeardDeed d s t left
by_reading {d = d} {s = s} {t = t} {left = left} h f = record {
  events = h.events;
  is = h.is;
  performs = λ blobs after agrees. subst (λ m. Performs d (supposing blobs s) (supposing m t) left) (sym (h.keeps blobs after agrees)) (f blobs (h.follows blobs after agrees));
}

wrote_is : (blobs : Blobs) (out text : List ℕ) (after : Blobs) → Agrees blobs (Took out text ∷ []) after → after ≡ insert blobs out text
unfolding Agrees
wrote_is blobs out text after h = h

lost_is : (blobs : Blobs) (out text : List ℕ) (after : Blobs) → Agrees blobs (Refused out text ∷ []) after → SameBut out blobs after
unfolding Agrees
lost_is blobs out text after h = subst (λ m. SameBut out blobs m) (sym h.1.1) h.1.0

pub heard_deed : {d : Deed} {s t : Store} {answer : Result (Option (List ℕ)) Refusal} → Performs d s t answer → HeardDeed d s t answer
heard_deed (unknown {s = s}) = record {
  events = [];
  is = sym (append-nil s.events);
  performs = λ blobs after h. subst (λ m. Performs Nothing (supposing blobs s) (supposing m s) (Err refusal.BadWords)) (sym (none_agree blobs after h)) unknown;
}
heard_deed (made p) = by_reading (heard p) (λ blobs f. made f)
heard_deed (not_made p) = by_reading (heard p) (λ blobs f. not_made f)
heard_deed (stopped p) = by_reading (heard p) (λ blobs f. stopped f)
heard_deed (wrote {out = out} {text = text} {s = s} {t = t} {u = u} p is w) =
    let h = heard p in
    record {
      events = h.events ++ Took out text ∷ [];
      is = w.handed_in ∙ ap (λ g. g ++ Took out text ∷ []) h.is ∙ append_assoc s.events h.events (Took out text ∷ []);
      performs = λ blobs after agrees.
          let two = split blobs h.events (Took out text ∷ []) after agrees in
          let same = h.keeps blobs two.between two.before in
          let put : after ≡ insert blobs out text = wrote_is blobs out text after (subst (λ m. Agrees m (Took out text ∷ []) after) same two.after) in
          wrote (h.follows blobs two.between two.before) is (record { leaves = put; none_fell = w.none_fell; caused = w.caused; of_write = w.of_write; handed_in = w.handed_in });
    }
heard_deed (lost {out = out} {text = text} {s = s} {t = t} {u = u} p is w) =
    let h = heard p in
    record {
      events = h.events ++ Refused out text ∷ [];
      is = w.handed_in ∙ ap (λ g. g ++ Refused out text ∷ []) h.is ∙ append_assoc s.events h.events (Refused out text ∷ []);
      performs = λ blobs after agrees.
          let two = split blobs h.events (Refused out text ∷ []) after agrees in
          let same = h.keeps blobs two.between two.before in
          let others = lost_is blobs out text after (subst (λ m. Agrees m (Refused out text ∷ []) after) same two.after) in
          lost (h.follows blobs two.between two.before) is (record { leaves = others; none_fell = w.none_fell; caused = w.caused; of_write = w.of_write; handed_in = w.handed_in });
    }

-- ---- a whole call

cancel : (old first then : List Event) → old ++ first ≡ old ++ then → first ≡ then
cancel [] first then is = is
cancel (e ∷ old) first then is = let less : old ++ first ≡ old ++ then = cc in cancel old first then less

-- two lists of events between the same two states of a store are the same
agrees_with : {s t : Store} (blobs left : Blobs) → AgreesBetween blobs left s t → (events : List Event) → t.events ≡ s.events ++ events → Agrees blobs events left
agrees_with {s} blobs left h events is = subst (λ e. Agrees blobs e left) (cancel s.events h.events events (sym h.is ∙ is)) h.agrees

pub follows_supposed : {A : Type 0} {reading : Reading A} {s t : Store} {answer : Result A Refusal} → Follows reading s t answer → (blobs left : Blobs) → AgreesBetween blobs left s t
    → Follows reading (supposing blobs s) (supposing left t) answer
follows_supposed {reading = reading} {s = s} {t = t} {answer = answer} p blobs left h =
    let all = heard p in
    let agrees = agrees_with blobs left h all.events all.is in
    subst (λ m. Follows reading (supposing blobs s) (supposing m t) answer) (sym (all.keeps blobs left agrees)) (all.follows blobs left agrees)

pub ends_supposed : {words : List (List ℕ)} {old new : Store} {s : Status} {before after : Output} → Ends words old new s before after → (blobs left : Blobs) → AgreesBetween blobs left old new
    → Ends words (supposing blobs old) (supposing left new) s before after
ends_supposed ends blobs left h =
    let all = heard_deed ends.performed in
    record { answer = ends.answer; performed = all.performs blobs left (agrees_with blobs left h all.events all.is); delivered = ends.delivered }

-- ---- what was read

pub read_so : {A : Type 0} {reading : Reading A} {s t : Store} {x : A} → Follows reading s t (Ok x) → ReadSo reading s.events t.events x
unfolding Replays
read_so (gave {s = s}) = record { reads = []; events = []; is = sym (append-nil s.events); are = none; replays = refl }
read_so (went_on {name = name} {s = s} {bytes = bytes} r p) =
    let rest = read_so p in
    record {
      reads = record { name = name; bytes = bytes } ∷ rest.reads;
      events = r.came.events ++ rest.events;
      is = rest.is ∙ ap (λ g. g ++ rest.events) r.came.after ∙ append_assoc s.events r.came.events rest.events;
      are = more name bytes r.came.is.0 rest.are;
      replays = (refl, rest.replays);
    }

-- whatever holds all that was read agrees: so some blobs do, unless one name was read twice with different bytes
pub reads_agree : (blobs : Blobs) {reads : List Got} {events : List Event} → AreReads reads events → Hold blobs reads → Agrees blobs events blobs
unfolding Hold Agrees
reads_agree blobs none held = refl
reads_agree blobs (more {events = events} {then = then} name bytes w rest) held =
    join blobs events then blobs blobs (whole_agrees blobs name bytes events w held.0) (reads_agree blobs rest held.1)
