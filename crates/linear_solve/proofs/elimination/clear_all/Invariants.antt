use Rattle.std.proofs.Common.{◌≡◌, ◌+◌, ◌*◌, ◌≤◌, ◌++◌, map, take, drop, length}
use Rattle.linear_solve.specs.Tables.{cleared}
use Rattle.linear_solve.proofs.elimination.clear_all.Given as goal

-- The rows before this one are cleared.
abbrev pub invariant-rows : goal.invariant-rows
invariant-rows g l = record {
  done : map (λ row. row.items) l.rows
      ≡ map (cleared g.F.Field.ring l.pivot l.column l.inverse) (take l.row-index (map (λ row. row.items) l.fn.rows)) ++ drop l.row-index (map (λ row. row.items) l.fn.rows);
  products : l.prods ≤ l.fn.prods + l.row-index * (1 + length l.pivot);
}
