-- An output in memory, and what a put makes of it. This project's own.
use Rattle.std.specs.Prelude.{refl, ℕ, ◌/◌, List, ◌++◌, length, take, Result, Ok, Err}
use Rattle.std.specs.Coded.{Coded, code_by, coded×, coded_ℕ, coded_list}
use Rattle.shelf_io.specs.declared.errors.SinkError.{SinkError}
use Rattle.shelf_io.specs.declared.errors.SinkError.TheVariants as sink
use Rattle.shelf_terms.specs.Counts.{one_more}
use Rattle.records.specs.Events.{Event}
use Rattle.records.specs.Rows.{events_code}
use Rattle.shelf_io.specs.Events.{after_putting}
use Rattle.shelf_io.specs.Plan.{Plan, plan_code, after_call}

pub record MemSinkView : Type 0 where
  pub written : List ℕ
  pub plan : Plan
  pub faults : ℕ
  pub events : List Event

-- by which a proof tells such outputs apart
abbrev pub sink_code : Coded MemSinkView
sink_code =
    code_by (List ℕ × (Plan × (ℕ × List Event)))
    (coded× (coded_list coded_ℕ) (coded× plan_code (coded× coded_ℕ events_code)))
    (λ s. (s.written, (s.plan, (s.faults, s.events))))
    (λ p. record { written = p.0; plan = p.1.0; faults = p.1.1.0; events = p.1.1.1 })
    (λ _. refl)

-- the first half, rounded down
abbrev pub half : List ℕ → List ℕ
half bytes = take (length bytes / 2) bytes

-- the output after a put with this answer: all the bytes are appended, or at a fault half of them, or for want of memory none
abbrev pub after_put : MemSinkView → List ℕ → Result (Unit {0}) SinkError → MemSinkView
after_put old bytes (Ok done) = record {
  written = old.written ++ bytes;
  plan = after_call old.plan;
  faults = old.faults;
  events = after_putting old.events bytes (Ok done);
}
after_put old bytes (Err sink.Fault) = record {
  written = old.written ++ half bytes;
  plan = after_call old.plan;
  faults = one_more old.faults;
  events = after_putting old.events bytes (Err sink.Fault);
}
after_put old bytes (Err sink.Memory) = record {
  written = old.written;
  plan = after_call old.plan;
  faults = old.faults;
  events = after_putting old.events bytes (Err sink.Memory);
}
