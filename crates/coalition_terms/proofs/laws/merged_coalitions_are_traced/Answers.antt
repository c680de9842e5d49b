use Rattle.coalition_terms.proofs.MergedTracing.{traced}
use Rattle.coalition_terms.proofs.laws.merged_coalitions_are_traced.Goals as goal

pub returns : goal.returns
returns c = traced
