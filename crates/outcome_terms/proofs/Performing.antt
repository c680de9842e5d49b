-- What follows for every command that was performed over a store.
use Rattle.std.proofs.Common.{◌≡◌, ◌∙◌, ℕ, List, Contains, Bool, true, false, cond, Option, Some, None, Result, Ok, Err, refl, sym, ap, subst, ◌⊎◌, inl, inr}
use Rattle.std.specs.Result.{IsOk, IsErr}
use Rattle.std.specs.FinMap.{insert, get-insert}
use Rattle.std.proofs.lemmas.Cmp.{nat_list_cmp_total}
use Rattle.std.proofs.lemmas.Map.Text.{is_eq-slice_cmp}
use Rattle.register_terms.proofs.Serials.{bytes_differ}
use Rattle.shelf_terms.specs.Blobs.{Blobs, blob_at, SameBut}
use Rattle.outcome_terms.specs.declared.status.Status.{Status}
use Rattle.outcome_terms.specs.declared.status.Status.TheVariants as status
use Rattle.outcome_terms.specs.declared.refusal.Refusal.{Refusal}
use Rattle.outcome_terms.specs.declared.refusal.Refusal.TheVariants as refusal
use Rattle.outcome_terms.specs.Statuses.{refusal_status}
use Rattle.outcome_terms.specs.Reading.{Reading, Within, given}
use Rattle.outcome_terms.specs.Stores.{NoneFell, Caused, OfWrite, Follows, gave, refused, went_on, failed, no_memory, Writing, Holds, OnlyChanges}
use Rattle.records.specs.Stores.{Store}
use Rattle.outcome_terms.specs.Commands.{Deed, Nothing, Put, Write}
use Rattle.outcome_terms.specs.Outcome.{Effect, Puts, Wrote, puts, writes, outcome_of, deed_names, LeavesEffect, Performs, unknown, made, not_made, wrote, stopped, lost, DeedAsks, written_name, first_refusal, refused_by_words}
use Rattle.outcome_terms.specs.Call.{OnlyWrites}
use Rattle.outcome_terms.proofs.Following.{kept, none_falls, none_fell_then, none_fell, caused_later, caused, decided, asks, asked, never_writes, never_bad_words, within}

-- ---- counts

pub performs_none_fell : {d : Deed} {s t : Store} {answer : Result (Option (List ℕ)) Refusal} → Performs d s t answer → NoneFell s.counts t.counts
performs_none_fell {s = s} unknown = none_falls s.counts
performs_none_fell (made p) = none_fell p
performs_none_fell (not_made p) = none_fell p
performs_none_fell (wrote p is w) = none_fell_then (none_fell p) w.none_fell
performs_none_fell (stopped p) = none_fell p
performs_none_fell (lost p is w) = none_fell_then (none_fell p) w.none_fell

pub performs_caused : {d : Deed} {s t : Store} {e : Refusal} → Performs d s t (Err e) → Caused s.counts t.counts e
performs_caused unknown = tt
performs_caused (not_made p) = caused p
performs_caused (stopped p) = caused p
performs_caused (lost {s = s} {t = t} {u = u} {e = e} p is w) = caused_later s.counts t.counts u.counts e (none_fell p) w.caused

-- ---- names

pub performs_asks : {d : Deed} {s t : Store} {unread : List ℕ} → Performs d s t (Err (refusal.ReadFault unread)) → DeedAsks d unread
performs_asks (not_made p) = asks p
performs_asks (stopped p) = asks p
performs_asks (lost p is w) = absurd w.of_write

pub performs_asked : {d : Deed} {s t : Store} {unread : List ℕ} (blobs : Blobs) → s.told ≡ Some blobs → Performs d s t (Err (refusal.ReadFault unread)) → Contains (deed_names d blobs) unread
performs_asked blobs is (not_made p) = asked blobs is p
performs_asked blobs is (stopped p) = asked blobs is p
performs_asked blobs is (lost p same w) = absurd w.of_write

pub performs_writes : {d : Deed} {s t : Store} {unwritten : List ℕ} → Performs d s t (Err (refusal.WriteFault unwritten)) → written_name d ≡ Some unwritten
performs_writes (not_made p) = absurd (never_writes p)
performs_writes (stopped p) = absurd (never_writes p)
performs_writes (lost p is w) = ap Some (sym w.of_write)

pub performs_known : {d : Deed} {s t : Store} → Performs d s t (Err refusal.BadWords) → d ≡ Nothing
performs_known unknown = refl
performs_known (not_made p) = absurd (never_bad_words p)
performs_known (stopped p) = absurd (never_bad_words p)
performs_known (lost p is w) = absurd w.of_write

-- ---- against the outcome

-- what an answer says of the outcome: what failed outside and want of memory say nothing
abbrev pub Gives : Result (Option (List ℕ)) Refusal → Result Effect Refusal → Type 0
Gives (Ok (Some text)) wanted = wanted ≡ Ok (Puts text)
Gives (Ok None) wanted = IsOk wanted
Gives (Err refusal.Memory) wanted = Unit {0}
Gives (Err (refusal.ReadFault name)) wanted = Unit {0}
Gives (Err (refusal.WriteFault name)) wanted = IsOk wanted
Gives (Err e) wanted = wanted ≡ Err e

ok_is : {A : Type 0} (wanted : Result A Refusal) (x : A) → wanted ≡ Ok x → IsOk wanted
ok_is wanted x is = subst IsOk (sym is) refl

-- a refusal of the reading is the outcome's
refused_gives : {A : Type 0} {reading : Reading A} {s t : Store} (view : Result A Refusal → Result Effect Refusal) → ((e : Refusal) → view (Err e) ≡ Err e) → (blobs : Blobs) → s.told ≡ Some blobs
    → (e : Refusal) → Follows reading s t (Err e) → Gives (Err e) (view (given blobs reading))
refused_gives view same blobs is refusal.Memory p = tt
refused_gives view same blobs is (refusal.ReadFault name) p = tt
refused_gives view same blobs is (refusal.WriteFault name) p = absurd (never_writes p)
refused_gives view same blobs is refusal.BadWords p = absurd (never_bad_words p)
refused_gives view same blobs is (refusal.Missing name) p = ap view (decided blobs is p) ∙ same (refusal.Missing name)
refused_gives view same blobs is (refusal.TooLong name) p = ap view (decided blobs is p) ∙ same (refusal.TooLong name)
refused_gives view same blobs is (refusal.Content fault) p = ap view (decided blobs is p) ∙ same (refusal.Content fault)

lost_gives : (out : List ℕ) (e : Refusal) (wanted : Result Effect Refusal) → OfWrite out e → IsOk wanted → Gives (Err e) wanted
lost_gives out refusal.Memory wanted of_write ok = tt
lost_gives out (refusal.WriteFault name) wanted of_write ok = ok
lost_gives out refusal.BadWords wanted of_write ok = absurd of_write
lost_gives out (refusal.Missing name) wanted of_write ok = absurd of_write
lost_gives out (refusal.ReadFault name) wanted of_write ok = absurd of_write
lost_gives out (refusal.TooLong name) wanted of_write ok = absurd of_write
lost_gives out (refusal.Content fault) wanted of_write ok = absurd of_write

written_ok : {reading : Reading Writing} {s t : Store} {writing : Writing} (out : List ℕ) (blobs : Blobs) → s.told ≡ Some blobs → Follows reading s t (Ok writing) → IsOk (writes out (given blobs reading))
written_ok {writing = writing} out blobs is p = ok_is _ (Wrote out writing) (ap (writes out) (decided blobs is p))

pub performs_gives : {d : Deed} {s t : Store} {answer : Result (Option (List ℕ)) Refusal} (blobs : Blobs) → s.told ≡ Some blobs → Performs d s t answer → Gives answer (outcome_of d blobs)
performs_gives blobs is unknown = refl
performs_gives blobs is (made p) = ap puts (decided blobs is p)
performs_gives blobs is (not_made {e = e} p) = refused_gives puts (λ e. refl) blobs is e p
performs_gives blobs is (wrote {out = out} p same w) = written_ok out blobs is p
performs_gives blobs is (stopped {out = out} {e = e} p) = refused_gives (writes out) (λ e. refl) blobs is e p
performs_gives blobs is (lost {out = out} {e = e} p same w) = lost_gives out e _ w.of_write (written_ok out blobs is p)

-- ---- the blobs after

others_kept : (out text : List ℕ) (old : Blobs) → SameBut out old (insert old out text)
others_kept out text old other differs =
    get-insert nat_list_cmp_total old out text other ∙ ap (λ b. cond b (Some text) (blob_at old other)) (is_eq-slice_cmp other out ∙ bytes_differ other out differs)

unchanged : (out : List ℕ) (told : Option Blobs) → OnlyChanges out told told
unchanged out None = tt
unchanged out (Some blobs) = λ other differs. refl

only_changes : (out text : List ℕ) (old new : Option Blobs) → Holds out text old new → OnlyChanges out old new
only_changes out text (Some old) (Some new) h = λ other differs. ap (λ blobs. blob_at blobs other) h ∙ others_kept out text old other differs
only_changes out text None None h = tt
only_changes out text (Some old) None h = h
only_changes out text None (Some new) h = h

pub performs_only : {d : Deed} {s t : Store} {answer : Result (Option (List ℕ)) Refusal} → Performs d s t answer → OnlyWrites (written_name d) s.told t.told
performs_only unknown = refl
performs_only (made p) = kept p
performs_only (not_made p) = kept p
performs_only (stopped {out = out} {s = s} p) = subst (λ (told : Option Blobs). OnlyChanges out s.told told) (sym (kept p)) (unchanged out s.told)
performs_only (wrote {out = out} {text = text} {s = s} {t = t} {u = u} p is w) = subst (λ (told : Option Blobs). OnlyChanges out told u.told) (kept p) (only_changes out text t.told u.told w.leaves)
performs_only (lost {out = out} {s = s} {t = t} {u = u} p is w) = subst (λ (told : Option Blobs). OnlyChanges out told u.told) (kept p) w.leaves

-- a refusal after which no blob has changed
abbrev pub keeps_blobs : Refusal → Bool
keeps_blobs refusal.Memory = false
keeps_blobs (refusal.WriteFault name) = false
keeps_blobs e = true

never_kept : (out : List ℕ) (e : Refusal) → OfWrite out e → keeps_blobs e ≡ true → ⊥
never_kept out refusal.Memory of_write h = cc
never_kept out (refusal.WriteFault name) of_write h = cc
never_kept out refusal.BadWords of_write h = of_write
never_kept out (refusal.Missing name) of_write h = of_write
never_kept out (refusal.ReadFault name) of_write h = of_write
never_kept out (refusal.TooLong name) of_write h = of_write
never_kept out (refusal.Content fault) of_write h = of_write

pub performs_kept : {d : Deed} {s t : Store} {e : Refusal} → Performs d s t (Err e) → keeps_blobs e ≡ true → t.told ≡ s.told
performs_kept unknown h = refl
performs_kept (not_made p) h = kept p
performs_kept (stopped p) h = kept p
performs_kept (lost {out = out} {e = e} p is w) h = absurd (never_kept out e w.of_write h)

ok_not_err : {A : Type 0} (wanted : Result A Refusal) → IsOk wanted → IsErr wanted → ⊥
ok_not_err (Ok x) ok err = cc
ok_not_err (Err e) ok err = cc

-- where the outcome is a refusal nothing is written
pub performs_spared : {d : Deed} {s t : Store} {answer : Result (Option (List ℕ)) Refusal} (blobs : Blobs) → s.told ≡ Some blobs → Performs d s t answer → IsErr (outcome_of d blobs) → t.told ≡ s.told
performs_spared blobs is unknown err = refl
performs_spared blobs is (made p) err = kept p
performs_spared blobs is (not_made p) err = kept p
performs_spared blobs is (stopped p) err = kept p
performs_spared blobs is (wrote {out = out} p same w) err = absurd (ok_not_err _ (written_ok out blobs is p) err)
performs_spared blobs is (lost {out = out} p same w) err = absurd (ok_not_err _ (written_ok out blobs is p) err)

holds_told : (out text : List ℕ) (blobs : Blobs) (old new : Option Blobs) → old ≡ Some blobs → Holds out text old new → new ≡ Some (insert blobs out text)
holds_told out text blobs None new is h = cc
holds_told out text blobs (Some old) None is h = absurd h
holds_told out text blobs (Some old) (Some new) is h = let same : old ≡ blobs = cc in ap Some (h ∙ ap (λ b. insert b out text) same)

-- a done command has its outcome's effect
pub performs_leaves : {d : Deed} {s t : Store} {left : Option (List ℕ)} (blobs : Blobs) → s.told ≡ Some blobs → Performs d s t (Ok left) → LeavesEffect (outcome_of d blobs) blobs t.told left
performs_leaves {t = t} blobs is (made {text = text} p) = subst (λ w. LeavesEffect w blobs t.told (Some text)) (sym (ap puts (decided blobs is p))) (kept p ∙ is, refl)
performs_leaves blobs is (wrote {out = out} {text = text} {writing = writing} {t = t} {u = u} p same w) =
    subst (λ e. LeavesEffect e blobs u.told None) (sym (ap (writes out) (decided blobs is p)))
    (record { text = text; is_writing = same; after = holds_told out text blobs t.told u.told (kept p ∙ is) w.leaves }, refl)

-- ---- what the words refuse

-- the refusal of the words, or want of memory, and a store that was not touched
pub record Stands {A : Type 0} (s t : Store) (answer : Result A Refusal) (e : Refusal) : Type 0 where
  pub same : t ≡ s
  pub is : (answer ≡ Err e) ⊎ (answer ≡ Err refusal.Memory)

first_stands : {A : Type 0} {reading : Reading A} {s t : Store} {answer : Result A Refusal} (e : Refusal) → first_refusal reading ≡ Some e → Follows reading s t answer → Stands s t answer e
first_stands e is gave = cc
first_stands e is (refused {fault = fault}) = let same : refusal.Content fault ≡ e = cc in record { same = refl; is = inl (ap Err same) }
first_stands e is (went_on r p) = cc
first_stands e is (failed r) = cc
first_stands e is no_memory = record { same = refl; is = inr refl }

stands_as : {A B : Type 0} {s t : Store} {other : Refusal} (e : Refusal) → Stands {A = A} s t (Err other) e → Stands {A = B} s t (Err other) e
stands_as {A} {B} {s} {t} {other} e h = record { same = h.same; is = elim h.is [ inl is ↦ inl (let same : other ≡ e = cc in ap Err same) | inr is ↦ inr (let same : other ≡ refusal.Memory = cc in ap Err same) ] }

never_given : {A : Type 0} {s t : Store} {x : A} {X : Type 0} (e : Refusal) → Stands s t (Ok x) e → X
never_given e h = elim h.is [ inl is ↦ cc | inr is ↦ cc ]

pub performs_stands : {d : Deed} {s t : Store} {answer : Result (Option (List ℕ)) Refusal} (e : Refusal) → refused_by_words d ≡ Some e → Performs d s t answer → Stands s t answer e
performs_stands e is unknown = let same : refusal.BadWords ≡ e = cc in record { same = refl; is = inl (ap Err same) }
performs_stands e is (made p) = never_given e (first_stands e is p)
performs_stands e is (not_made p) = stands_as e (first_stands e is p)
performs_stands e is (wrote p same w) = never_given e (first_stands e is p)
performs_stands e is (stopped p) = stands_as e (first_stands e is p)
performs_stands e is (lost p same w) = never_given e (first_stands e is p)

pub performs_put_kept : {d : Deed} {s t : Store} {text : List ℕ} → Performs d s t (Ok (Some text)) → t.told ≡ s.told
performs_put_kept (made p) = kept p

-- ---- which statuses a refusal of a command has

pub put_within : {reading : Reading (List ℕ)} {s t : Store} {e : Refusal} (may : Status → Bool) → may status.Memory ≡ true → Within may reading → Performs (Put reading) s t (Err e) → may (refusal_status e) ≡ true
put_within may memory h (not_made p) = within may memory h p

pub write_within : {out : List ℕ} {reading : Reading Writing} {s t : Store} {e : Refusal} (may : Status → Bool) → may status.Memory ≡ true → may status.WriteFault ≡ true → Within may reading → Performs (Write out reading) s t (Err e)
    → may (refusal_status e) ≡ true
write_within may memory write_fault h (stopped p) = within may memory h p
write_within may memory write_fault h (lost {e = e} p is w) = of_write _ e w.of_write
  where
    of_write : (out : List ℕ) (e : Refusal) → OfWrite out e → may (refusal_status e) ≡ true
    of_write out refusal.Memory h = memory
    of_write out (refusal.WriteFault name) h = write_fault
    of_write out refusal.BadWords h = absurd h
    of_write out (refusal.Missing name) h = absurd h
    of_write out (refusal.ReadFault name) h = absurd h
    of_write out (refusal.TooLong name) h = absurd h
    of_write out (refusal.Content fault) h = absurd h

pub write_puts_none : {out : List ℕ} {reading : Reading Writing} {s t : Store} {text : List ℕ} {X : Type 0} → Performs (Write out reading) s t (Ok (Some text)) → X
write_puts_none p = elim p [ ]
