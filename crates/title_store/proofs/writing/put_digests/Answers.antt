use Rattle.std.proofs.Common.{◌≡◌, ◌++◌, ℕ, List, take, map, Some, sym, ap, ◌∙◌, append_assoc}
use Rattle.std.specs.List.{flat_map}
use Rattle.hex.specs.Hex.{encode_lower}
use Rattle.form_terms.specs.TextLines.{line}
use Rattle.title_store.specs.Cells.{held_at, filled}
use Rattle.title_store.proofs.WrittenLines.{one_more_digest}
use Rattle.title_store.proofs.writing.put_digests.Goals as goal

pub loop-cell-preserved : goal.loop-cell-preserved
loop-cell-preserved c =
    let d : List ℕ = c.unwrap-digest.result in
    let before : List ℕ = flat_map line (map encode_lower (take c.loop-cell.cell (filled c.args.table.now))) in
    let holds : held_at c.args.table.now c.loop-cell.cell ≡ Some d = sym c.at.ensures ∙ c.unwrap-digest.ensures in
    c.in_ok-put_digest.ensures
    ∙ ap (λ (bytes : List ℕ). bytes ++ line (encode_lower d)) c.loop-cell.invariant
    ∙ append_assoc c.args.out.now.items before (line (encode_lower d))
    ∙ ap (λ (bytes : List ℕ). c.args.out.now.items ++ bytes) (sym (one_more_digest c.args.table.now c.loop-cell.cell d c.requires holds))
