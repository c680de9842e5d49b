-- How a record stores the events that were noted. This project's own.
use Rattle.std.specs.Prelude.{ℕ, List, [], refl, ◌==◌, ◌≡◌, slice_index, if◌then◌else◌}
use Rattle.std.specs.Coded.{Coded, code_by, coded×, coded_ℕ, coded_list}
use Rattle.records.specs.Events.{Event, Gave, Missed, Failed, Took, Refused}

-- the kind of the event, a place, a bound, a name and bytes
abbrev pub Row : Type 0
Row = ℕ × (ℕ × (ℕ × (List ℕ × List ℕ)))

abbrev pub row_of : Event → Row
row_of (Gave name from most bytes) = (0, (from, (most, (name, bytes))))
row_of (Missed name) = (1, (0, (0, (name, []))))
row_of (Failed name) = (2, (0, (0, (name, []))))
row_of (Took name bytes) = (3, (0, (0, (name, bytes))))
row_of (Refused name bytes) = (4, (0, (0, (name, bytes))))

abbrev pub of_row : Row → Event
of_row r =
    if r.0 == 0 then Gave r.1.1.1.0 r.1.0 r.1.1.0 r.1.1.1.1
    else (if r.0 == 1 then Missed r.1.1.1.0
    else (if r.0 == 2 then Failed r.1.1.1.0
    else (if r.0 == 3 then Took r.1.1.1.0 r.1.1.1.1
    else Refused r.1.1.1.0 r.1.1.1.1)))

pub there_and_back : (e : Event) → of_row (row_of e) ≡ e
there_and_back (Gave name from most bytes) = refl
there_and_back (Missed name) = refl
there_and_back (Failed name) = refl
there_and_back (Took name bytes) = refl
there_and_back (Refused name bytes) = refl

abbrev pub event_code : Coded Event
event_code =
    code_by Row
    (coded× coded_ℕ (coded× coded_ℕ (coded× coded_ℕ (coded× (coded_list coded_ℕ) (coded_list coded_ℕ)))))
    row_of of_row there_and_back

abbrev pub events_code : Coded (List Event)
events_code = coded_list event_code

-- the event of the numbers kind, place and bound, a name and bytes
abbrev pub event_of : List ℕ → List ℕ → List ℕ → Event
event_of numbers name bytes =
    of_row (slice_index numbers 0, (slice_index numbers 1, (slice_index numbers 2, (name, bytes))))
