use Rattle.std.proofs.Common.{arith}
use Rattle.trace_cli.proofs.costs.curves_are_built.Goals as goal

pub returns : goal.returns
returns c = λ p. omega arith
