use Rattle.trace_desk.proofs.CurveCosts.{linear_cost}
use Rattle.trace_desk.proofs.costs.linear_curves_cost.Goals as goal

pub returns : goal.returns
returns c = linear_cost
