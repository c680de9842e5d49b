use Rattle.std.proofs.Common.{◌≡◌, ◌<◌, ◌+◌, ◌-◌, ◌++◌, ◌∷◌, ℕ, List, Option, [], take, true, false, Ok, sym, ap, ◌∙◌, subst, arith}
use Rattle.std.specs.List.{list_any}
use Rattle.std.specs.Str.{bytes_eq}
use Rattle.form_terms.specs.Forms.{fault, rows_after}
use Rattle.title_terms.specs.declared.fault.TitleKind.TheVariants as kinds
use Rattle.title_terms.specs.TitleText.{digest_form}
use Rattle.title_store.specs.Cells.{filled, IsFilled, IsRefusal}
use Rattle.title_store.proofs.RowByRow.{row_taken, row_refused, rows_all}
use Rattle.title_store.proofs.Filling.{absent_new, held_old, one_more, grown, all_filled, digest_new, digest_old, digest_bad}
use Rattle.title_store.proofs.reading.read_digests.Goals as goal

pub returns-in-Err-clause-rows : goal.returns-in-Err-clause-rows
returns-in-Err-clause-rows c =
    let past : List (List ℕ) = filled (take c.rows.row c.rows.table) in
    let whole = rows_after [] c.args.count digest_form c.args.lines.now in
    let lt : c.rows.row < c.args.count = omega (arith, c.rows-test.true) in
    row_refused digest_form past c.rows.row c.args.count c.rows.lines c.in-Err.fault whole lt (digest_bad past c.rows.lines c.in-Err.fault c.in-Err.ensures.found) c.rows.invariant.so_far

pub returns-in-Err-HeldBy-clause-rows : goal.returns-in-Err-HeldBy-clause-rows
returns-in-Err-HeldBy-clause-rows c =
    let past : List (List ℕ) = filled (take c.rows.row c.rows.table) in
    let whole = rows_after [] c.args.count digest_form c.args.lines.now in
    let lt : c.rows.row < c.args.count = omega (arith, c.rows-test.true) in
    let after = c.digest_row.new.lines in
    let d : List ℕ = c.in-Ok.digest in
    let refused = subst (λ e. IsRefusal c.rows.table c.rows.row d e) c.in-Err-HeldBy.field-0-is c.in-Err-HeldBy.ensures.refused in
    let held : list_any (bytes_eq d) past ≡ true = held_old c.rows.table c.rows.row c.args.count c.rows.invariant.cells d c.in-Err-HeldBy.field-0-0 refused.1 in
    rw (c.into.ensures, c.fault.ensures)
    (row_refused digest_form past c.rows.row c.args.count c.rows.lines (fault after.number kinds.Duplicate) whole lt (digest_old past c.rows.lines after d c.in-Ok.ensures.found held) c.rows.invariant.so_far)

pub rows-preserved : goal.rows-preserved
rows-preserved c =
    let table : List (Option (List ℕ)) = c.rows.table in
    let past : List (List ℕ) = filled (take c.rows.row table) in
    let whole = rows_after [] c.args.count digest_form c.args.lines.now in
    let lt : c.rows.row < c.args.count = omega (arith, c.rows-test.true) in
    let after = c.digest_row.new.lines in
    let d : List ℕ = c.in-Ok.digest in
    let none : list_any (bytes_eq d) past ≡ false = absent_new table c.rows.row c.args.count c.rows.invariant.cells d c.in-Ok-put.ensures.absent in
    let more : filled (take (c.rows.row + 1) c.put.new.self) ≡ past ++ d ∷ [] =
    ap (λ (cells : List (Option (List ℕ))). filled (take (c.rows.row + 1) cells)) c.in-Ok-put.ensures.added ∙ one_more table c.rows.row c.args.count c.rows.invariant.cells d lt in
    record {
      so_far = ap (λ (ds : List (List ℕ)). rows_after ds (c.args.count - (c.rows.row + 1)) digest_form after) more
          ∙ row_taken digest_form past c.rows.row c.args.count c.rows.lines after d whole lt (digest_new past c.rows.lines after d c.in-Ok.ensures.found none) c.rows.invariant.so_far;
      cells = subst (λ (cells : List (Option (List ℕ))). IsFilled cells (c.rows.row + 1) c.args.count) (sym c.in-Ok-put.ensures.added) (grown table c.rows.row c.args.count c.rows.invariant.cells d lt);
      counted = omega (arith, c.in-Ok.ensures.counted, c.rows.invariant.counted);
    }

pub returns-clause-rows : goal.returns-clause-rows
returns-clause-rows c =
    let whole = rows_after [] c.args.count digest_form c.args.lines.now in
    let last : c.rows.row ≡ c.args.count = omega (arith, c.rows-test.false, c.rows.auto.row-end) in
    rows_all digest_form (filled (take c.rows.row c.rows.table)) c.rows.row c.args.count c.rows.lines whole last c.rows.invariant.so_far
    ∙ ap (λ (ds : List (List ℕ)). Ok (ds, c.rows.lines)) (all_filled c.rows.table c.rows.row c.args.count c.rows.invariant.cells last)
