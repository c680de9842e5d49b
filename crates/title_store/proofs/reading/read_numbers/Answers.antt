use Rattle.std.proofs.Common.{◌≡◌, ◌<◌, ◌+◌, ◌-◌, ℕ, List, [], Ok, Err, ap, ◌∙◌, subst, arith}
use Rattle.form_terms.specs.Forms.{rows_after}
use Rattle.title_terms.specs.TitleText.{mark_form}
use Rattle.title_store.proofs.RowByRow.{row_taken, row_refused, rows_all}
use Rattle.title_store.proofs.reading.read_numbers.Goals as goal

pub returns-in-Err-clause-rows : goal.returns-in-Err-clause-rows
returns-in-Err-clause-rows c =
    let form = mark_form c.args.segments in
    let whole = rows_after [] c.args.count form c.args.lines.now in
    let lt : c.rows._row < c.args.count = omega (arith, c.rows-test.true) in
    let found : form c.rows.marks.items c.rows.lines ≡ Err c.in-Err.fault = subst (λ (past : List ℕ). form past c.rows.lines ≡ Err c.in-Err.fault) c.as_slice.ensures.value c.in-Err.ensures.found in
    row_refused form c.rows.marks.items c.rows._row c.args.count c.rows.lines c.in-Err.fault whole lt found c.rows.invariant.so_far

pub rows-preserved : goal.rows-preserved
rows-preserved c =
    let form = mark_form c.args.segments in
    let whole = rows_after [] c.args.count form c.args.lines.now in
    let lt : c.rows._row < c.args.count = omega (arith, c.rows-test.true) in
    let found : form c.rows.marks.items c.rows.lines ≡ Ok (c.in-Ok.segment, c.mark_row.new.lines) = subst (λ (past : List ℕ). form past c.rows.lines ≡ Ok (c.in-Ok.segment, c.mark_row.new.lines)) c.as_slice.ensures.value c.in-Ok.ensures.found in
    record {
      so_far = ap (λ (marks : List ℕ). rows_after marks (c.args.count - (c.rows._row + 1)) form c.mark_row.new.lines) c.in-Ok-push.ensures.items
          ∙ row_taken form c.rows.marks.items c.rows._row c.args.count c.rows.lines c.mark_row.new.lines c.in-Ok.segment whole lt found c.rows.invariant.so_far;
      long = omega (arith, c.in-Ok-push.ensures.len, c.rows.invariant.long);
      counted = omega (arith, c.in-Ok.ensures.counted, c.rows.invariant.counted);
    }

pub returns-clause-rows : goal.returns-clause-rows
returns-clause-rows c =
    let form = mark_form c.args.segments in
    let whole = rows_after [] c.args.count form c.args.lines.now in
    let last : c.rows._row ≡ c.args.count = omega (arith, c.rows-test.false, c.rows.auto._row-end) in
    rows_all form c.rows.marks.items c.rows._row c.args.count c.rows.lines whole last c.rows.invariant.so_far
