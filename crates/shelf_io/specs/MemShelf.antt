-- A store in memory, and what a read or a write makes of it. This project's own.
use Rattle.std.specs.Prelude.{refl, ℕ, Bool, List, if◌then◌else◌}
use Rattle.std.specs.FinMap.{insert, code}
use Rattle.std.specs.Coded.{Coded, code_by, coded×, coded_ℕ, coded_list}
use Rattle.shelf_terms.specs.Blobs.{Blobs}
use Rattle.shelf_terms.specs.Counts.{Tally, tally_code, counted_read, counted_write}
use Rattle.records.specs.Events.{Event}
use Rattle.records.specs.Rows.{events_code}
use Rattle.shelf_io.specs.Plan.{Plan, plan_code, after_call}

pub record MemShelfView : Type 0 where
  pub blobs : Blobs
  pub plan : Plan
  pub counts : Tally
  pub events : List Event

-- a read leaves the blobs
abbrev pub after_part : MemShelfView → List ℕ → (failed missed : Bool) → List Event → MemShelfView
after_part old name failed missed events = record {
  blobs = old.blobs;
  plan = after_call old.plan;
  counts = counted_read old.counts name failed missed;
  events = events;
}

-- no refused write changes a blob
abbrev pub after_write : MemShelfView → List ℕ → List ℕ → (done failed : Bool) → List Event → MemShelfView
after_write old name bytes done failed events = record {
  blobs = if done then insert old.blobs name bytes else old.blobs;
  plan = after_call old.plan;
  counts = counted_write old.counts failed;
  events = events;
}

-- by which a proof tells such stores apart
abbrev pub view_code : Coded MemShelfView
view_code =
    code_by (Blobs × (Plan × (Tally × List Event)))
    (coded× (code (coded_list coded_ℕ) (coded_list coded_ℕ)) (coded× plan_code (coded× tally_code events_code)))
    (λ s. (s.blobs, (s.plan, (s.counts, s.events))))
    (λ p. record { blobs = p.0; plan = p.1.0; counts = p.1.1.0; events = p.1.1.1 })
    (λ _. refl)
