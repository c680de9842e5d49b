use Rattle.root_terms.proofs.Costs.{whole_bound}
use Rattle.root_terms.proofs.laws.laws_of_bounds.Goals as goal

pub returns : goal.returns
returns c = λ k d e some. whole_bound k d e some
