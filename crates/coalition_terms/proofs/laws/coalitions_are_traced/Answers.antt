use Rattle.coalition_terms.proofs.Tracing.{traced}
use Rattle.coalition_terms.proofs.laws.coalitions_are_traced.Goals as goal

pub returns : goal.returns
returns c = traced
