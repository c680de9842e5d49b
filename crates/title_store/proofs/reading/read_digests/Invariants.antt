use Rattle.std.proofs.Common.{◌≡◌, ◌+◌, ◌-◌, [], take}
use Rattle.form_terms.specs.Forms.{rows_after}
use Rattle.title_terms.specs.TitleText.{digest_form}
use Rattle.title_store.specs.Cells.{filled, IsFilled}
use Rattle.title_store.proofs.reading.read_digests.Given as goal

abbrev pub invariant-rows : goal.invariant-rows
invariant-rows l = record {
  so_far : rows_after (filled (take l.row l.table)) (l.count - l.row) digest_form l.lines ≡ rows_after [] l.count digest_form l.fn.lines;
  cells : IsFilled l.table l.row l.count;
  counted : l.lines.number ≡ l.fn.lines.number + l.row;
}
