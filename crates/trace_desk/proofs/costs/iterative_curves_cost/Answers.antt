use Rattle.trace_desk.proofs.CurveCosts.{iterative_cost}
use Rattle.trace_desk.proofs.costs.iterative_curves_cost.Goals as goal

pub returns : goal.returns
returns c = iterative_cost
