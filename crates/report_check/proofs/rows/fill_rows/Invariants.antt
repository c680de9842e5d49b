use Rattle.std.proofs.Common.{◌≡◌, ◌+◌, ◌*◌, ◌≤◌, length}
use Rattle.report_check.specs.Shown.{HasRows}
use Rattle.report_check.proofs.rows.fill_rows.Given as goal

abbrev pub invariant-loop-index : goal.invariant-loop-index
invariant-loop-index g l = record {
  long : length l.rows ≡ 416;
  front : HasRows g.F.Field.BITS l.code.dimension l.code.places l.index l.rows;
  products : l.prods ≤ l.fn.prods + l.index * (l.code.places * l.code.dimension);
}
