use Rattle.std.proofs.Common.{◌≡◌}
use Rattle.serde_json.specs.View.{items_view}
use Rattle.report_terms.specs.Reports.{all_said, accused_said}
use Rattle.trace_report.proofs.Lists.{said_and_rest}
use Rattle.trace_report.proofs.reading.accused_in.Given as goal

abbrev pub invariant-items : goal.invariant-items
invariant-items l = said_and_rest accused_said l.accused.items l.item-index l.items.items ≡ all_said accused_said (items_view l.items.items)
