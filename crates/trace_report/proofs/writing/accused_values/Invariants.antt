use Rattle.std.proofs.Common.{◌≡◌, map, take}
use Rattle.serde_json.specs.View.{view}
use Rattle.report_terms.specs.Values.{accused_value}
use Rattle.trace_report.proofs.writing.accused_values.Given as goal

abbrev pub invariant-accused : goal.invariant-accused
invariant-accused l = map view l.values.items ≡ map accused_value (take l.one-index l.accused)
