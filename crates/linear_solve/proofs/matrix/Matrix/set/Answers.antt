use Rattle.std.proofs.Common.{◌≡◌, [], ◌<◌, length, map, set, get_or, ap, sym, subst, ◌∙◌, arith}
use Rattle.std.proofs.lemmas.List.{length-map, map-set, length-set}
use Rattle.std.specs.Vec.{with_item}
use Rattle.linear_solve.specs.Tables.{HaveLength}
use Rattle.linear_solve.proofs.Rows.{row_is, row_length, set_even}
use Rattle.linear_solve.proofs.matrix.Matrix.set.Goals as goal

pub index_mut-requires-2 : goal.index_mut-requires-2
index_mut-requires-2 g c =
    let inside : c.args.row < length c.self.inside.rows.items = subst (λ t. c.args.row < t) (ap (λ table. length table.rows) (sym c.self.view_is) ∙ length-map c.self.inside.rows.items (λ row. row.items)) c.requires.row in
    let long = row_length c.self.inside.columns c.self.inside.rows.items c.args.row c.index_mut.result.now c.self.invariant.even inside c.index_mut.ensures.value in
    let columns : c.self.inside.columns ≡ c.args.self.now.columns = ap (λ table. table.columns) c.self.view_is in
    omega (arith, long, columns, c.requires.column, c.index_mut.result.now.ok)

pub invariant_of-self : goal.invariant_of-self
invariant_of-self g c =
    let inside : c.args.row < length c.self.inside.rows.items = subst (λ t. c.args.row < t) (ap (λ table. length table.rows) (sym c.self.view_is) ∙ length-map c.self.inside.rows.items (λ row. row.items)) c.requires.row in
    let long = row_length c.self.inside.columns c.self.inside.rows.items c.args.row c.index_mut.result.now c.self.invariant.even inside c.index_mut.ensures.value in
    let changed = with_item c.index_mut.result.now c.args.col c.args.value in
    let is = map-set (λ row. row.items) c.self.inside.rows.items c.args.row changed in
    let count = ap length is ∙ length-set (map (λ row. row.items) c.self.inside.rows.items) c.args.row changed.items in
    record {
      some_rows = rw count c.self.invariant.some_rows;
      some_columns = c.self.invariant.some_columns;
      few = rw count c.self.invariant.few;
      even = subst (HaveLength c.self.inside.columns) (sym is) (set_even c.self.inside.columns (map (λ row. row.items) c.self.inside.rows.items) c.args.row changed.items c.self.invariant.even (length-set c.index_mut.result.now.items c.args.col c.args.value ∙ long));
    }

pub returns-clause-rows : goal.returns-clause-rows
returns-clause-rows g c =
    let inside : c.args.row < length c.self.inside.rows.items = subst (λ t. c.args.row < t) (ap (λ table. length table.rows) (sym c.self.view_is) ∙ length-map c.self.inside.rows.items (λ row. row.items)) c.requires.row in
    let row : c.index_mut.result.now.items ≡ get_or (map (λ row. row.items) c.self.inside.rows.items) c.args.row [] =
    sym (row_is c.self.inside.rows.items c.args.row c.index_mut.result.now [] inside c.index_mut.ensures.value) in
    map-set (λ row. row.items) c.self.inside.rows.items c.args.row (with_item c.index_mut.result.now c.args.col c.args.value)
    ∙ ap (λ t. set (map (λ row. row.items) c.self.inside.rows.items) c.args.row (set t c.args.col c.args.value)) row
    ∙ ap (λ table. set table.rows c.args.row (set (get_or table.rows c.args.row []) c.args.col c.args.value)) c.self.view_is
