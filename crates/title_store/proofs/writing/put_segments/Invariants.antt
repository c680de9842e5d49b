use Rattle.std.proofs.Common.{◌≡◌, ◌++◌, take, map}
use Rattle.std.specs.List.{flat_map}
use Rattle.form_terms.specs.TextLines.{line}
use Rattle.title_terms.specs.TitleText.{segment_text}
use Rattle.title_store.proofs.writing.put_segments.Given as goal

abbrev pub invariant-segments : goal.invariant-segments
invariant-segments l = l.out.items ≡ l.fn.out.items ++ flat_map line (map segment_text (take l.segment-index l.segments))
