-- What follows for every reading that was followed over a store.
use Rattle.std.proofs.Common.{◌≡◌, ◌∙◌, ℕ, suc, List, ◌∷◌, Contains, Bool, true, Option, Some, None, Result, Err, refl, sym, ap, subst, arith}
use Rattle.std.specs.Option.{IfSome}
use Rattle.shelf_terms.specs.Blobs.{Blobs}
use Rattle.shelf_terms.specs.Counts.{Tally}
use Rattle.shelf_terms.proofs.CausesLemmas.{rose_later}
use Rattle.outcome_terms.specs.declared.status.Status.{Status}
use Rattle.outcome_terms.specs.declared.status.Status.TheVariants as status
use Rattle.outcome_terms.specs.declared.refusal.Refusal.{Refusal}
use Rattle.outcome_terms.specs.declared.refusal.Refusal.TheVariants as refusal
use Rattle.outcome_terms.specs.Statuses.{refusal_status}
use Rattle.outcome_terms.specs.Reading.{Reading, Read, Asks, now, later, Within, read_blob, with_bytes, given, names_with, names_read}
use Rattle.outcome_terms.specs.Stores.{Answers, NoneFell, Caused, OfRead, Reads, Follows, gave, refused, went_on, failed, no_memory}
use Rattle.records.specs.Stores.{Store}

-- no blob changes
pub kept : {A : Type 0} {reading : Reading A} {s t : Store} {answer : Result A Refusal} → Follows reading s t answer → t.told ≡ s.told
kept gave = refl
kept refused = refl
kept (went_on r p) = kept p ∙ r.kept
kept (failed r) = r.kept
kept no_memory = refl

pub none_falls : (a : Tally) → NoneFell a a
none_falls a = record { faults = omega arith; misses = omega arith; write_faults = omega arith }

pub none_fell_then : {a b c : Tally} → NoneFell a b → NoneFell b c → NoneFell a c
none_fell_then {a} {b} {c} first second =
    record { faults = omega (arith, first.faults, second.faults); misses = omega (arith, first.misses, second.misses); write_faults = omega (arith, first.write_faults, second.write_faults) }

pub none_fell : {A : Type 0} {reading : Reading A} {s t : Store} {answer : Result A Refusal} → Follows reading s t answer → NoneFell s.counts t.counts
none_fell {s = s} gave = none_falls s.counts
none_fell {s = s} refused = none_falls s.counts
none_fell (went_on r p) = none_fell_then r.none_fell (none_fell p)
none_fell (failed r) = r.none_fell
none_fell {s = s} no_memory = none_falls s.counts

-- what was caused in a later part was caused in the whole
pub caused_later : (a b c : Tally) (e : Refusal) → NoneFell a b → Caused b c e → Caused a c e
caused_later a b c (refusal.Missing name) fell h = rose_later a.misses b.misses c.misses fell.misses h
caused_later a b c (refusal.ReadFault name) fell h = (rose_later a.faults b.faults c.faults fell.faults h.0, h.1)
caused_later a b c (refusal.WriteFault name) fell h = rose_later a.write_faults b.write_faults c.write_faults fell.write_faults h
caused_later a b c refusal.Memory fell h = tt
caused_later a b c refusal.BadWords fell h = tt
caused_later a b c (refusal.TooLong name) fell h = tt
caused_later a b c (refusal.Content fault) fell h = tt

pub caused : {A : Type 0} {reading : Reading A} {s t : Store} {e : Refusal} → Follows reading s t (Err e) → Caused s.counts t.counts e
caused refused = tt
caused (went_on {s = s} {t = t} {u = u} r p) = caused_later s.counts t.counts u.counts _ r.none_fell (caused p)
caused (failed r) = r.caused
caused no_memory = tt

-- ---- where the blobs are told

told_at : (P : Blobs → Type 0) (told : Option Blobs) (blobs : Blobs) → told ≡ Some blobs → IfSome told P → P blobs
told_at P told blobs is h = subst (λ o. IfSome o P) is h

pub over_told : {P : Blobs → Type 0} (told : Option Blobs) → ((blobs : Blobs) → told ≡ Some blobs → P blobs) → IfSome told P
over_told None h = tt
over_told (Some blobs) h = h blobs refl

read_over : {name : List ℕ} {s t : Store} {answer : Result (List ℕ) Refusal} (blobs : Blobs) → s.told ≡ Some blobs → Reads name s t answer → Answers answer (read_blob blobs name)
read_over {name} {s} {t} {answer} blobs is r = told_at (λ b. Answers answer (read_blob b name)) s.told blobs is r.decided

-- a read that was refused refuses the whole
refused_with : {A : Type 0} (e : Refusal) (wanted : Result (List ℕ) Refusal) (next : List ℕ → Result A Refusal) → Answers {A = List ℕ} (Err e) wanted → Answers {A = A} (Err e) (with_bytes wanted next)
refused_with refusal.Memory wanted next h = tt
refused_with (refusal.ReadFault name) wanted next h = tt
refused_with (refusal.WriteFault name) wanted next h = tt
refused_with refusal.BadWords wanted next h = ap (λ w. with_bytes w next) h
refused_with (refusal.Missing name) wanted next h = ap (λ w. with_bytes w next) h
refused_with (refusal.TooLong name) wanted next h = ap (λ w. with_bytes w next) h
refused_with (refusal.Content fault) wanted next h = ap (λ w. with_bytes w next) h

-- the answer is what the reading gives over these blobs
pub decided : {A : Type 0} {reading : Reading A} {s t : Store} {answer : Result A Refusal} (blobs : Blobs) → s.told ≡ Some blobs → Follows reading s t answer → Answers answer (given blobs reading)
unfolding given
decided blobs is gave = refl
decided blobs is refused = refl
decided blobs is (went_on {name = name} {next = next} {answer = answer} r p) =
    subst (λ w. Answers answer (with_bytes w (λ bytes. given blobs (next bytes)))) (sym (read_over blobs is r)) (decided blobs (r.kept ∙ is) p)
decided blobs is (failed {name = name} {next = next} {e = e} r) = refused_with e (read_blob blobs name) (λ bytes. given blobs (next bytes)) (read_over blobs is r)
decided blobs is no_memory = tt

-- ---- which names

contains_first : {x y : List ℕ} (xs : List (List ℕ)) → y ≡ x → Contains (y ∷ xs) x
contains_first xs is = (0, omega arith, is)

contains_later : (x y : List ℕ) (xs : List (List ℕ)) → Contains xs x → Contains (y ∷ xs) x
contains_later x y xs found = (suc found.0, omega (arith, found.1), found.2)

-- a read that failed is of a name that is read
pub asks : {A : Type 0} {reading : Reading A} {s t : Store} {unread : List ℕ} → Follows reading s t (Err (refusal.ReadFault unread)) → Asks reading unread
asks (went_on {bytes = bytes} r p) = later bytes (asks p)
asks {unread = unread} (failed {next = next} r) = subst (λ n. Asks (Read n next) unread) r.of_read now

-- and where the blobs are told, one that is read over them
pub asked : {A : Type 0} {reading : Reading A} {s t : Store} {unread : List ℕ} (blobs : Blobs) → s.told ≡ Some blobs → Follows reading s t (Err (refusal.ReadFault unread)) → Contains (names_read blobs reading) unread
unfolding names_read
asked {unread = unread} blobs is (went_on {name = name} {next = next} {bytes = bytes} r p) =
    let now_read = read_over blobs is r in
    contains_later unread name _ (subst (λ w. Contains (names_with w (λ bytes. names_read blobs (next bytes))) unread) (sym now_read) (asked blobs (r.kept ∙ is) p))
asked blobs is (failed r) = contains_first _ (sym r.of_read)

pub never_writes : {A : Type 0} {reading : Reading A} {s t : Store} {unwritten : List ℕ} → Follows reading s t (Err (refusal.WriteFault unwritten)) → ⊥
never_writes (went_on r p) = never_writes p
never_writes (failed r) = r.of_read

pub never_bad_words : {A : Type 0} {reading : Reading A} {s t : Store} → Follows reading s t (Err refusal.BadWords) → ⊥
never_bad_words (went_on r p) = never_bad_words p
never_bad_words (failed r) = r.of_read

-- ---- which statuses

pub within : {A : Type 0} {reading : Reading A} {s t : Store} {e : Refusal} (may : Status → Bool) → may status.Memory ≡ true → Within may reading → Follows reading s t (Err e) → may (refusal_status e) ≡ true
unfolding Within
within may memory allowed refused = allowed
within may memory allowed (went_on {bytes = bytes} r p) = within may memory (allowed.1 bytes) p
within may memory allowed (failed {e = e} r) = of_read _ e r.of_read
  where
    of_read : (name : List ℕ) (e : Refusal) → OfRead name e → may (refusal_status e) ≡ true
    of_read name refusal.Memory h = memory
    of_read name (refusal.Missing missing) h = allowed.0.missing
    of_read name (refusal.ReadFault unread) h = allowed.0.failed
    of_read name (refusal.TooLong long) h = allowed.0.long
    of_read name refusal.BadWords h = absurd h
    of_read name (refusal.WriteFault unwritten) h = absurd h
    of_read name (refusal.Content fault) h = absurd h
within may memory allowed no_memory = memory
