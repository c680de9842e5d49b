use Rattle.std.proofs.Common.{◌≡◌, map, take}
use Rattle.serde_json.specs.View.{view}
use Rattle.report_terms.specs.Values.{number_value}
use Rattle.trace_report.proofs.writing.place_values.Given as goal

abbrev pub invariant-places : goal.invariant-places
invariant-places l = map view l.values.items ≡ map number_value (take l.place-index l.places)
