use Rattle.term_lists.specs.Places.{AreTermsBelow}
use Rattle.term_lists.proofs.exponents.terms_below.Given as goal

-- All terms of the weights so far.
abbrev pub invariant-weights : goal.invariant-weights
invariant-weights l = AreTermsBelow l.w l.weight l.terms.items
