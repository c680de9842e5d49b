use Rattle.std.proofs.Common.{◌≡◌, map, replicate}
use Rattle.linear_solve.proofs.matrix.Matrix.zeros.Given as goal

-- Rows of zeros so far.
abbrev pub invariant-rows : goal.invariant-rows
invariant-rows g l = map (λ row. row.items) l.lines.items ≡ replicate l._row (replicate l.cols g.F.Field.ring.nil)
