-- Memory that ran out where the refusal of a read was told.
use Rattle.std.proofs.Common.{◌≡◌, ◌≤◌, ℕ, List, Bool, Result, Ok, Err, sym, ap, subst, arith}
use Rattle.std.specs.Result.{IsErrAnd}
use Rattle.shelf_terms.specs.declared.limit.TheConstants.{BLOB_LIMIT}
use Rattle.shelf_terms.specs.Causes.{ReadCauses}
use Rattle.records.specs.Events.{Event}
use Rattle.records.specs.Parts.{IsStopped, Came}
use Rattle.records.specs.Stores.{Store}
use Rattle.records.proofs.Stopping.{missed_stops, failed_stops, longer_stops}
use Rattle.shelf_io.specs.Events.{RefusedIs}
use Rattle.shelf_io.specs.declared.errors.FetchError.{FetchError}
use Rattle.shelf_io.specs.declared.errors.FetchError.TheVariants as fetch
use Rattle.outcome_terms.specs.declared.refusal.Refusal.{Refusal}
use Rattle.outcome_terms.specs.declared.refusal.Refusal.TheVariants as refusal
use Rattle.outcome_terms.proofs.Following.{over_told}
use Rattle.title_io.specs.Pours.{PoursAs}

refused_stops : {name : List ℕ} {old new : List Event} (e : FetchError) → Came name old new (RefusedIs name BLOB_LIMIT e) → Came name old new (IsStopped name)
refused_stops fetch.Missing came = missed_stops came
refused_stops fetch.Fault came = failed_stops came
refused_stops fetch.TooLong came = longer_stops came
refused_stops fetch.Memory came = came

is_memory : (r : Result (Unit {0}) Refusal) → IsErrAnd r (λ e. e ≡ refusal.Memory) → r ≡ Err refusal.Memory
is_memory (Ok done) is = absurd is
is_memory (Err e) is = ap Err is

pub memory_pours : {failed missed : Bool} (name : List ℕ) (old new : Store) (stands : List ℕ → Type 0) (e : FetchError) (r : Result (Unit {0}) Refusal) → IsErrAnd r (λ e. e ≡ refusal.Memory)
    → new.told ≡ old.told → ReadCauses old.counts new.counts name failed missed → Came name old.events new.events (RefusedIs name BLOB_LIMIT e) → PoursAs name old new stands r
memory_pours name old new stands e r is same causes came = subst (PoursAs name old new stands) (sym (is_memory r is)) (record {
  kept = same;
  none_fell = record { faults = causes.faults_stay; misses = causes.misses_stay; write_faults = omega (arith, causes.writes_stay) };
  caused = tt;
  of_read = tt;
  came = refused_stops e came;
  decided = over_told old.told (λ _ _. tt);
})
