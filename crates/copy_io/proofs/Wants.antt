-- Want of memory in place of another refusal.
use Rattle.std.proofs.Common.{List, ℕ, Err, inl, inr}
use Rattle.records.specs.Events.{Event}
use Rattle.records.specs.Parts.{IsStopped}
use Rattle.records.specs.Stores.{Store}
use Rattle.outcome_terms.specs.declared.refusal.Refusal.{Refusal}
use Rattle.outcome_terms.specs.declared.refusal.Refusal.TheVariants as refusal
use Rattle.outcome_terms.specs.Reading.{Reading}
use Rattle.outcome_terms.specs.Stores.{OfRead, ReadIs, Follows, refused, went_on, failed, no_memory}
use Rattle.outcome_terms.proofs.Following.{over_told}

-- a read that was refused stopped somewhere
stopped : (name : List ℕ) (e : Refusal) (events : List Event) → OfRead name e → ReadIs name (Err e) events → IsStopped name events
stopped name (refusal.TooLong long) events of is = inl (record { bytes = is.bytes; front = is.front })
stopped name (refusal.Missing missing) events of is = inr (inl is)
stopped name (refusal.ReadFault unread) events of is = inr (inr is)
stopped name refusal.Memory events of is = is
stopped name (refusal.WriteFault unwritten) events of is = absurd of
stopped name refusal.BadWords events of is = absurd of
stopped name (refusal.Content fault) events of is = absurd of

-- memory may run out where a refusal is told
pub memory_instead : {A : Type 0} {reading : Reading A} {s t : Store} {e : Refusal} → Follows reading s t (Err e) → Follows reading s t (Err refusal.Memory)
memory_instead refused = no_memory
memory_instead (went_on r p) = went_on r (memory_instead p)
memory_instead {e = e} (failed {name = name} {s = s} r) = failed (record {
  kept = r.kept;
  none_fell = r.none_fell;
  caused = tt;
  of_read = tt;
  came = record { events = r.came.events; after = r.came.after; reads = r.came.reads; is = stopped name e r.came.events r.of_read r.came.is };
  decided = over_told s.told (λ _ _. tt);
})
memory_instead no_memory = no_memory
