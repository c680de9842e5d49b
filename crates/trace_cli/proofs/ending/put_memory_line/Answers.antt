use Rattle.std.proofs.Common.{refl}
use Rattle.std.specs.Fmt.{digits}
use Rattle.outcome_terms.specs.Statuses.{line_of}
use Rattle.outcome_terms.specs.Output.{memory_line}
use Rattle.trace_cli.proofs.Prefixes.{prefix_told}
use Rattle.trace_cli.specs.declared.ending.TheConstants.{MEMORY_LINE}
use Rattle.trace_cli.proofs.ending.put_memory_line.Goals as goal

pub returns-clause-out : goal.returns-clause-out
unfolding line_of digits
returns-clause-out g c = prefix_told (g.O.Sink.output c.args.out.now).written (g.O.Sink.output c.put.new.self).written MEMORY_LINE.now memory_line _ refl c.put.ensures.bytes
