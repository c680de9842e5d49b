use Rattle.std.proofs.Common.{ℕ, ◌+◌, ◌*◌, ◌^◌, ◌≤◌, ◌<◌, List, length, arith, subst, sym, ap, ◌∙◌}
use Rattle.std.proofs.lemmas.List.{length-set}
use Rattle.report_check.specs.Shown.{HasRows, HasSymbols, message_of_row}
use Rattle.report_check.proofs.RowSteps.{row_more, row_same}
use Rattle.report_check.proofs.rows.fill_rows.Goals as goal
use Rattle.report_check.proofs.rows.fill_rows.Goals.{then-number-count, else-number-count}

pub loop-index-preserved : goal.loop-index-preserved
loop-index-preserved g c =
    let m = g.F.Field.BITS in
    let k = c.args.code.now.dimension in
    let n = c.args.code.now.places in
    let rows = c.loop-index.rows in
    let index = c.loop-index.index in
    let room : index < length rows = omega (arith, c.loop-index-test.true, c.requires, c.loop-index.invariant.long) in
    elim c.if-number-count.branch [
      | then-number-count w ↦
          let row : List ℕ = w.fill_row.new.row in
          let is : HasSymbols m k (message_of_row index) n row = subst (λ u. HasSymbols m k u n row) (w.of.ensures ∙ c.number_of_row-number.ensures) w.fill_row.ensures.symbols in
          record {
            long = ap length w.rows-is ∙ length-set rows index row ∙ c.loop-index.invariant.long;
            front = subst (HasRows m k n (index + 1)) (sym w.rows-is) (row_more m k n rows index row room is c.loop-index.invariant.front);
            products = omega (arith, c.loop-index.invariant.products, w.fill_row.ensures.products);
          }
      | else-number-count w ↦
          let large : 2 ^ (m * k) ≤ message_of_row index = omega (arith, w.if-number-count.false, c.number_of_row-number.ensures, c.message_count-count.ensures) in
          record {
            long = ap length w.rows-is ∙ c.loop-index.invariant.long;
            front = subst (HasRows m k n (index + 1)) (sym w.rows-is) (row_same m k n rows index large c.loop-index.invariant.front);
            products = omega (arith, c.loop-index.invariant.products);
          }
    ]
