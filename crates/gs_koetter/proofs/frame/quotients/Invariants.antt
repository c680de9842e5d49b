use Rattle.std.proofs.Common.{[], length}
use Rattle.term_lists.specs.Extended.{IsExtended}
use Rattle.term_lists.specs.Places.{exponents_at}
use Rattle.gs_koetter.proofs.Quotients.{IsQuotient}
use Rattle.gs_koetter.proofs.frame.quotients.Given as goal

-- The quotients of the first terms.
abbrev pub invariant-terms : goal.invariant-terms
invariant-terms l = IsExtended (λ k quotient. IsQuotient l.w (length l.terms) (exponents_at l.terms k) quotient) 0 [] l.k l.quotients.items
