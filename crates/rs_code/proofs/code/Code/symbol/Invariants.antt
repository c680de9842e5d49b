use Rattle.std.proofs.Common.{◌≡◌, ◌+◌, ◌-◌, ◌≤◌}
use Rattle.code_terms.proofs.Evaluation.{nested}
use Rattle.rs_code.proofs.code.Code.symbol.Given as goal

-- The value of the coefficients from j on.
abbrev pub invariant-coefficients : goal.invariant-coefficients
invariant-coefficients g l = record {
  value : g.F.Field.number l.value ≡ nested g.F.Field.BITS l.message l.place l.j (l.dimension - l.j);
  products : l.prods ≤ l.fn.prods + (l.dimension - l.j);
}
