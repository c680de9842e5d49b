use Rattle.std.proofs.Common.{◌≡◌, [], ◌<◌, length, get_or, ap, sym, subst, ◌∙◌, arith}
use Rattle.std.proofs.lemmas.List.{length-map, get_or_default}
use Rattle.linear_solve.proofs.Rows.{row_is, row_length}
use Rattle.linear_solve.proofs.matrix.Matrix.get.Goals as goal

pub index-requires-2 : goal.index-requires-2
index-requires-2 g c =
    let inside : c.args.row < length c.self.inside.rows.items = subst (λ t. c.args.row < t) (ap (λ table. length table.rows) (sym c.self.view_is) ∙ length-map c.self.inside.rows.items (λ row. row.items)) c.requires.row in
    let long = row_length c.self.inside.columns c.self.inside.rows.items c.args.row c.index.result.now c.self.invariant.even inside c.index.ensures in
    let columns : c.self.inside.columns ≡ c.args.self.now.columns = ap (λ table. table.columns) c.self.view_is in
    omega (arith, long, columns, c.requires.column, c.index.result.now.ok)

pub returns : goal.returns
returns g c =
    let inside : c.args.row < length c.self.inside.rows.items = subst (λ t. c.args.row < t) (ap (λ table. length table.rows) (sym c.self.view_is) ∙ length-map c.self.inside.rows.items (λ row. row.items)) c.requires.row in
    let row : c.index.result.now.items ≡ get_or c.args.self.now.rows c.args.row [] =
    sym (row_is c.self.inside.rows.items c.args.row c.index.result.now [] inside c.index.ensures) ∙ ap (λ table. get_or table.rows c.args.row []) c.self.view_is in
    let column : c.args.col < length c.index.result.now.items = omega (arith, row_length c.self.inside.columns c.self.inside.rows.items c.args.row c.index.result.now c.self.invariant.even inside c.index.ensures, ap (λ table. table.columns) c.self.view_is, c.requires.column) in
    c.index-2.ensures ∙ get_or_default c.index.result.now.items c.args.col c.index-2.result.now g.F.Field.ring.nil column ∙ ap (λ t. get_or t c.args.col g.F.Field.ring.nil) row
