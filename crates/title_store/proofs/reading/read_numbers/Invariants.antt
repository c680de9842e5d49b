use Rattle.std.proofs.Common.{◌≡◌, ◌+◌, ◌-◌, [], vec_len}
use Rattle.form_terms.specs.Forms.{rows_after}
use Rattle.title_terms.specs.TitleText.{mark_form}
use Rattle.title_store.proofs.reading.read_numbers.Given as goal

abbrev pub invariant-rows : goal.invariant-rows
invariant-rows l = record {
  so_far : rows_after l.marks.items (l.count - l._row) (mark_form l.segments) l.lines ≡ rows_after [] l.count (mark_form l.segments) l.fn.lines;
  long : vec_len l.marks ≡ l._row;
  counted : l.lines.number ≡ l.fn.lines.number + l._row;
}
