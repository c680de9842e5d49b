use Rattle.std.proofs.Common.{◌≤◌, List, length, sym, ap, subst, ◌∙◌, arith}
use Rattle.std.proofs.lemmas.List.{take_all}
use Rattle.bi_poly.specs.Rows.{polynomial_of, AreLimited}
use Rattle.bi_poly.proofs.bivariate.BiPoly.copy.Goals as goal

pub returns : goal.returns
returns g c =
    let rows : List (List g.row.F.Denot) = c.self.inside.rows.items in
    let end : length rows ≤ c.rows.j = omega (arith, c.self.inside.rows.ok.0) in
    ap (polynomial_of g.F.Field.number) (c.rows.invariant ∙ take_all c.rows.j rows end) ∙ c.self.view_is

pub invariant_of-result : goal.invariant_of-result
invariant_of-result g c =
    let rows : List (List g.row.F.Denot) = c.self.inside.rows.items in
    let end : length rows ≤ c.rows.j = omega (arith, c.self.inside.rows.ok.0) in
    subst (AreLimited g.F.Field.ring) (sym (c.rows.invariant ∙ take_all c.rows.j rows end)) c.self.invariant
