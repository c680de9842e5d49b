use Rattle.term_lists.specs.Polynomials.{HasTerms}
use Rattle.term_lists.proofs.polynomials.polynomial_of.Given as goal

-- The coefficients so far.
abbrev pub invariant-terms : goal.invariant-terms
invariant-terms g l = HasTerms g.F.Field.ring l.terms l.coefs l.k l.q
