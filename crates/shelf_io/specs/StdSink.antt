-- A writer of the system with a count of what failed. This project's own.
use Rattle.std.specs.Prelude.{refl, ℕ, List, Option}
use Rattle.std.specs.Coded.{Coded, code_by, coded×, coded_ℕ, coded_list, coded_option}
use Rattle.records.specs.Events.{Event}
use Rattle.records.specs.Rows.{events_code}

pub record StdSinkView : Type 0 where
  pub faults : ℕ
  -- what stands in the writer, where it tells that
  pub contents : Option (List ℕ)
  pub events : List Event

-- by which a proof tells such outputs apart
abbrev pub std_sink_code : Coded StdSinkView
std_sink_code =
    code_by (ℕ × (Option (List ℕ) × List Event))
    (coded× coded_ℕ (coded× (coded_option (coded_list coded_ℕ)) events_code))
    (λ s. (s.faults, (s.contents, s.events)))
    (λ p. record { faults = p.0; contents = p.1.0; events = p.1.1 })
    (λ _. refl)
