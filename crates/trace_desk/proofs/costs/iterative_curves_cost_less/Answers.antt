use Rattle.trace_desk.proofs.CurveCosts.{iterative_less}
use Rattle.trace_desk.proofs.costs.iterative_curves_cost_less.Goals as goal

pub returns : goal.returns
returns c = iterative_less
