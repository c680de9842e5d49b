use Rattle.std.proofs.Common.{◌≡◌, ◌+◌, ◌-◌, [], length}
use Rattle.form_terms.specs.Forms.{rows_after}
use Rattle.title_terms.specs.TitleText.{segment_form}
use Rattle.title_store.proofs.reading.read_segments.Given as goal

abbrev pub invariant-rows : goal.invariant-rows
invariant-rows l = record {
  so_far : rows_after l.list.segments (l.count - l._row) segment_form l.lines ≡ rows_after [] l.count segment_form l.fn.lines;
  others : l.list ≡ record l.fn.list { segments = l.list.segments };
  long : length l.list.segments ≡ l._row;
  counted : l.lines.number ≡ 11 + l._row;
}
