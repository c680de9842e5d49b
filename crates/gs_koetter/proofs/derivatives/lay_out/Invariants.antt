use Rattle.std.proofs.Common.{◌≡◌, length}
use Rattle.gs_koetter.proofs.Laying.{IsLaidOut}
use Rattle.gs_koetter.proofs.derivatives.lay_out.Given as goal

-- The first coefficients stand in their cells, and all other cells are zero.
abbrev pub invariant-terms : goal.invariant-terms
invariant-terms g l = record {
  laid : IsLaidOut g.F.Field.ring l.frame.terms.w l.frame.terms.e l.frame.width l.coefs l.k l.table;
  count : length l.table ≡ length l.fn.table;
}
