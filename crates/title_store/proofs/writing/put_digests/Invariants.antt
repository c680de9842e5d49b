use Rattle.std.proofs.Common.{◌≡◌, ◌++◌, take, map}
use Rattle.std.specs.List.{flat_map}
use Rattle.hex.specs.Hex.{encode_lower}
use Rattle.form_terms.specs.TextLines.{line}
use Rattle.title_store.specs.Cells.{filled}
use Rattle.title_store.proofs.writing.put_digests.Given as goal

abbrev pub invariant-loop-cell : goal.invariant-loop-cell
invariant-loop-cell l = l.out.items ≡ l.fn.out.items ++ flat_map line (map encode_lower (take l.cell (filled l.table)))
