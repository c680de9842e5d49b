use Rattle.std.proofs.Common.{arith}
use Rattle.trace_desk.proofs.CurveCosts.{iterative_cost}
use Rattle.trace_cli.proofs.costs.curves_cost.Goals as goal

pub returns : goal.returns
returns c = iterative_cost _ (λ p. omega arith)
