use Rattle.std.proofs.Common.{◌≡◌, ◌<◌, List, [], length, set, ap, ◌∙◌, arith}
use Rattle.std.proofs.lemmas.List.{get_or-set_same, get_or_default}
use Rattle.algebra.specs.Lists.{coefficients}
use Rattle.algebra.specs.Bivariate.{Bivariate}
use Rattle.bi_poly.specs.Rows.{polynomial_of}
use Rattle.bi_poly.specs.Results.{with_coefficient}
use Rattle.bi_poly.proofs.Cells.{same_polynomial, same_replaced, polynomial_put}
use Rattle.bi_poly.proofs.Outcomes.{on_err}
use Rattle.bi_poly.proofs.bivariate.BiPoly.set.Goals as goal

pub returns-in_err-grow_rows-clause-err : goal.returns-in_err-grow_rows-clause-err
returns-in_err-grow_rows-clause-err g c =
    let met = g.met.F.Field in
    on_err c.from_residual.result
    (same_polynomial g.F.Field.ring g.F.Field.number met.number_nil met.same c.grow_rows.new.rows.items c.self.inside.rows.items c.grow_rows.ensures.same ∙ c.self.view_is)

pub returns-in_err-grow-clause-err : goal.returns-in_err-grow-clause-err
returns-in_err-grow-clause-err g c =
    let met = g.met.F.Field in
    let R = g.F.Field.ring in
    let grown = c.grow_rows.new.rows.items in
    let inside : c.args.j < length grown = omega (arith, c.in_ok-grow_rows.ensures.ok) in
    on_err c.from_residual-in_err-grow.result
    (same_polynomial R g.F.Field.number met.number_nil met.same (set grown c.args.j c.grow.new.self) c.self.inside.rows.items
    (λ a b.
    same_replaced R g.F.Field.number met.number_nil met.same grown c.args.j c.grow.new.self inside
    (λ k. c.grow.ensures.same k ∙ ap (λ (t : List g.row.F.Denot). coefficients R t k) (c.index_mut.ensures.value ∙ get_or_default grown c.args.j c.index_mut.result.now [] inside))
    a b
    ∙ c.grow_rows.ensures.same a b)
    ∙ c.self.view_is)

pub returns-clause-ok : goal.returns-clause-ok
returns-clause-ok g c =
    let met = g.met.F.Field in
    let R = g.F.Field.ring in
    let grown = c.grow_rows.new.rows.items in
    let row = c.grow.new.self in
    let inside : c.args.j < length grown = omega (arith, c.in_ok-grow_rows.ensures.ok) in
    let again : c.index_mut-2.result.now ≡ row =
    c.index_mut-2.ensures.value ∙ get_or-set_same grown c.args.j row c.index_mut-2.result.now inside in
    let put : c.put.new.self ≡ set row c.args.i c.args.value = c.put.ensures ∙ ap (λ (t : List g.row.F.Denot). set t c.args.i c.args.value) again in
    ap (λ (t : List g.row.F.Denot). polynomial_of g.F.Field.number (set (set grown c.args.j row) c.args.j t)) put
    ∙ polynomial_put R g.F.Field.number met.number_nil met.same c.self.inside.rows.items grown c.args.j c.args.i row c.args.value c.grow_rows.ensures.same inside
    (λ k. c.grow.ensures.same k ∙ ap (λ (t : List g.row.F.Denot). coefficients R t k) (c.index_mut.ensures.value ∙ get_or_default grown c.args.j c.index_mut.result.now [] inside))
    (omega (arith, c.in_ok-grow.ensures.ok))
    ∙ ap (λ (q : Bivariate g.row.F.Denot). with_coefficient g.F.Field.number q c.args.i c.args.j c.args.value) c.self.view_is
