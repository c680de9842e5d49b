-- A refused read stopped somewhere.
use Rattle.std.proofs.Common.{ℕ, List, inl, inr}
use Rattle.records.specs.Events.{Event}
use Rattle.records.specs.Parts.{IsLonger, IsMissed, IsFailed, IsStopped, Came}

module _ {name : List ℕ} {old new : List Event} where
  pub missed_stops : Came name old new (IsMissed name) → Came name old new (IsStopped name)
  missed_stops c = record { events = c.events; after = c.after; reads = c.reads; is = inr (inl c.is) }

  pub failed_stops : Came name old new (IsFailed name) → Came name old new (IsStopped name)
  failed_stops c = record { events = c.events; after = c.after; reads = c.reads; is = inr (inr c.is) }

  pub longer_stops : {limit : ℕ} → Came name old new (IsLonger name limit) → Came name old new (IsStopped name)
  longer_stops c = record { events = c.events; after = c.after; reads = c.reads; is = inl (record { bytes = c.is.bytes; front = c.is.front }) }
