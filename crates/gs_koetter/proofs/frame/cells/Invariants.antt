use Rattle.std.proofs.Common.{◌≡◌, ℕ, ◌+◌, ◌*◌, ◌<◌, length, get_or}
use Rattle.term_lists.specs.Places.{exponents_at}
use Rattle.gs_koetter.proofs.frame.cells.Given as goal

-- The first cells.
abbrev pub invariant-terms : goal.invariant-terms
invariant-terms l = record {
  count : length l.cells.items ≡ l.k;
  each : (n : ℕ) → n < l.k → get_or l.cells.items n 0 ≡ (exponents_at l.monomials.terms.items n).x * l.width + (exponents_at l.monomials.terms.items n).y;
}
