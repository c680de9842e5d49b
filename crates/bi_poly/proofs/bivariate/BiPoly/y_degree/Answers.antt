use Rattle.std.proofs.Common.{List, subst}
use Rattle.bi_poly.proofs.Heights.{IsHeight, degree_of}
use Rattle.bi_poly.proofs.bivariate.BiPoly.y_degree.Goals as goal

pub returns-clause-none : goal.returns-clause-none
returns-clause-none g c =
    let R = g.F.Field.ring in
    let met = g.met.F.Field in
    let tall : IsHeight R c.self.inside.rows.items c.height.result =
    subst (λ (rows : List (List g.row.F.Denot)). IsHeight R rows c.height.result) c.deref.ensures.value (record { zeros = c.height.ensures.zeros; last = c.height.ensures.last }) in
    (degree_of R g.F.Field.number met.number_nil met.same c.self.inside.rows.items c.args.self.now c.height.result c.checked_sub.result c.self.view_is tall c.checked_sub.ensures).0

pub returns-clause-some : goal.returns-clause-some
returns-clause-some g c =
    let R = g.F.Field.ring in
    let met = g.met.F.Field in
    let tall : IsHeight R c.self.inside.rows.items c.height.result =
    subst (λ (rows : List (List g.row.F.Denot)). IsHeight R rows c.height.result) c.deref.ensures.value (record { zeros = c.height.ensures.zeros; last = c.height.ensures.last }) in
    (degree_of R g.F.Field.number met.number_nil met.same c.self.inside.rows.items c.args.self.now c.height.result c.checked_sub.result c.self.view_is tall c.checked_sub.ensures).1
