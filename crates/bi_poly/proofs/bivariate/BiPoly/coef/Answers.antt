use Rattle.std.proofs.Common.{sym, ap, ◌∙◌}
use Rattle.algebra.specs.Bivariate.{Bivariate, coefficient}
use Rattle.bi_poly.specs.Rows.{cell}
use Rattle.bi_poly.proofs.Cells.{coefficient_cell}
use Rattle.bi_poly.proofs.bivariate.BiPoly.coef.Goals as goal

pub returns : goal.returns
returns g c =
    let R = g.F.Field.ring in
    let met = g.met.F.Field in
    c.cell.ensures
    ∙ ap (λ rows. cell R rows c.args.i c.args.j) c.deref.ensures.value
    ∙ sym (coefficient_cell R g.F.Field.number met.number_nil met.same c.self.inside.rows.items c.args.i c.args.j)
    ∙ ap (λ (q : Bivariate g.row.F.Denot). coefficient R q c.args.i c.args.j) c.self.view_is
