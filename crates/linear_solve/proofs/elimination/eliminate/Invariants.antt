use Rattle.std.proofs.Common.{◌+◌, ◌-◌, ◌*◌, ◌≤◌, map, length, vec_len}
use Rattle.linear_solve.proofs.Stage.{IsStage}
use Rattle.linear_solve.proofs.Written.{IsWritten}
use Rattle.linear_solve.proofs.elimination.eliminate.Given as goal

abbrev pub invariant-rows : goal.invariant-rows
invariant-rows g l = record {
  stage : IsStage g.F.Field.ring l.columns (map (λ row. row.items) l.fn.rows.items) (map (λ row. row.items) l.rows.items) l.pivots.items;
  written : IsWritten g.F.Field.ring l.columns (map (λ row. row.items) l.fn.rows.items) (map (λ row. row.items) l.rows.items) l.pivots.items;
  count : length l.rows.items + length l.pivots.items ≤ length l.fn.rows.items;
  products : l.prods ≤ l.fn.prods + (length l.fn.rows.items - length l.rows.items) * (1 + (length l.fn.rows.items - 1) * (1 + l.columns));
}

abbrev pub decreases-rows : goal.decreases-rows
decreases-rows g l = vec_len l.rows
