use Rattle.std.proofs.Common.{◌∙◌, sym, subst}
use Rattle.shelf_terms.specs.Counts.{Rose}
use Rattle.outcome_terms.specs.declared.status.Status.{Status}
use Rattle.outcome_terms.specs.Output.{TellsRefusal}
use Rattle.trace_cli.proofs.Prefixes.{line_fault}
use Rattle.trace_cli.proofs.ending.put_refusal.Goals as goal

pub returns-in-Err-Fault-clause-out : goal.returns-in-Err-Fault-clause-out
returns-in-Err-Fault-clause-out g c =
    let rose = Rose (g.O.Sink.output c.args.out.now).faults (g.O.Sink.output c.put.new.self).faults in
    let old = (g.O.Sink.output c.args.out.now).written in
    let new = (g.O.Sink.output c.put.new.self).written in
    subst (λ (s : Status). TellsRefusal s c.args.refusal.now rose old new) (sym c.refusal_status-in-Err-Fault.ensures)
    (line_fault c.args.refusal.now rose old new c.as_slice.result.now c.in-Err-Fault.field-0 (c.as_slice.ensures.value ∙ c.in-Ok.ensures) (c.in-Err-Fault.ensures.fault (cc (c.in-Err-Fault.field-0-is))) c.in-Err-Fault.ensures.bytes)
