use Rattle.std.proofs.Common.{[], ◌<◌, length, map, set, get_or, ap, sym, ◌∙◌, arith}
use Rattle.std.proofs.lemmas.List.{length-map, map-set}
use Rattle.std.proofs.lemmas.List.Edits.{map_over_more}
use Rattle.linear_solve.specs.Tables.{cleared}
use Rattle.linear_solve.proofs.Rows.{row_is, rest_at}
use Rattle.linear_solve.proofs.elimination.clear_all.Goals as goal

pub clear-requires-clause-length : goal.clear-requires-clause-length
clear-requires-clause-length g c =
    let here : c.rows.row-index < length c.rows.rows = omega (arith, c.rows.auto.rows) in
    let there : c.rows.row-index < length c.args.rows.now = omega (arith, c.rows.auto.rows) in
    ap (λ row. length row.items) (sym c.row-item.is)
    ∙ ap length (sym (row_is c.rows.rows c.rows.row-index c.row-item.result [] here c.row-item.is))
    ∙ ap (λ rows. length (get_or rows c.rows.row-index [])) c.rows.invariant.done
    ∙ ap length (rest_at (cleared g.F.Field.ring c.args.pivot.now c.args.column c.args.inverse) (map (λ row. row.items) c.args.rows.now) c.rows.row-index [] (rw (length-map c.args.rows.now (λ row. row.items)) there))
    ∙ c.requires.lengths c.rows.row-index (rw (length-map c.args.rows.now (λ row. row.items)) there)

pub clear-requires-clause-column : goal.clear-requires-clause-column
clear-requires-clause-column g c =
    let long = clear-requires-clause-length g c in omega (arith, long, c.requires.column)

pub rows-preserved : goal.rows-preserved
rows-preserved g c =
    let here : c.rows.row-index < length c.rows.rows = omega (arith, c.rows.auto.rows) in
    let there : c.rows.row-index < length c.args.rows.now = omega (arith, c.rows.auto.rows) in
    let is = row_is c.rows.rows c.rows.row-index c.row-item.result c.row-item.result.items here c.row-item.is in
    record {
      done =
          map-set (λ row. row.items) c.rows.rows c.rows.row-index c.clear.new.row
          ∙ ap (λ t. set (map (λ row. row.items) c.rows.rows) c.rows.row-index t) (c.clear.ensures.cleared ∙ ap (λ row. cleared g.F.Field.ring c.args.pivot.now c.args.column c.args.inverse row.items) (sym c.row-item.is))
          ∙ map_over_more (cleared g.F.Field.ring c.args.pivot.now c.args.column c.args.inverse) (map (λ row. row.items) c.args.rows.now) (map (λ row. row.items) c.rows.rows) c.rows.row-index c.row-item.result.items (rw (length-map c.args.rows.now (λ row. row.items)) there) c.rows.invariant.done (sym is);
      products = omega (arith, c.clear.ensures.products, c.rows.invariant.products);
    }
