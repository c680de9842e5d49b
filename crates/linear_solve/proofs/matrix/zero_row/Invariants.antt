use Rattle.std.proofs.Common.{◌≡◌, replicate}
use Rattle.linear_solve.proofs.matrix.zero_row.Given as goal

abbrev pub invariant-columns : goal.invariant-columns
invariant-columns g l = l.row.items ≡ replicate l._column g.F.Field.ring.nil
