use Rattle.term_lists.proofs.Ordered.{next_weight}
use Rattle.term_lists.proofs.exponents.terms_below.Goals as goal

pub weights-preserved : goal.weights-preserved
weights-preserved c = next_weight c.args.w c.weights.weight c.requires.some c.weights.terms.items c.add_weight.new.terms.items c.weights.invariant c.in_ok-add_weight.ensures
