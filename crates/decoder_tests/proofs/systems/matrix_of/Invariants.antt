use Rattle.std.proofs.Common.{◌≡◌, length}
use Rattle.decoder_tests.proofs.systems.matrix_of.Given as goal

-- The matrix keeps its shape.
abbrev pub invariant-entries : goal.invariant-entries
invariant-entries g l = record {
  rows : length l.matrix.rows ≡ l.rows;
  columns : l.matrix.columns ≡ l.columns;
}
