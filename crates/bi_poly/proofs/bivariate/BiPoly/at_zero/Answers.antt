use Rattle.std.proofs.Common.{◌≡◌, ◌+◌, ◌<◌, ◌≤◌, List, [], length, sym, ap, subst, ◌∙◌, arith}
use Rattle.std.proofs.lemmas.List.{get_or_default}
use Rattle.algebra.specs.Bivariate.{coefficient, IsWithin}
use Rattle.algebra.specs.Lists.{coefficients}
use Rattle.uni_poly.proofs.Filling.{IsFilled, filled_push, filled_all}
use Rattle.bi_poly.specs.Rows.{cell}
use Rattle.bi_poly.proofs.Cells.{limited_within}
use Rattle.bi_poly.proofs.RowDerivatives.{coefficient_is}
use Rattle.bi_poly.proofs.SubstitutedRows.{cell_past, list_same}
use Rattle.bi_poly.proofs.bivariate.BiPoly.at_zero.Goals as goal

pub rows-preserved : goal.rows-preserved
rows-preserved g c =
    let R = g.F.Field.ring in
    let rows : List (List g.row.F.Denot) = c.self.inside.rows.items in
    let inside : c.rows.j < length rows = omega (arith, c.self.inside.rows.ok.0) in
    let here : c.coef.result ≡ cell R rows 0 c.rows.j =
    c.coef.ensures ∙ ap (λ (t : List g.row.F.Denot). coefficients R t 0) (c.index.ensures ∙ get_or_default rows c.rows.j c.index.result.now [] inside) in
    subst (IsFilled R (λ k. cell R rows 0 k) (c.rows.j + 1)) (sym c.in_ok-push.ensures.items)
    (filled_push R (λ k. cell R rows 0 k) c.rows.j c.rows.column.items c.coef.result c.rows.invariant here)

pub returns-clause-limits : goal.returns-clause-limits
returns-clause-limits g c =
    let met = g.met.F.Field in
    subst (IsWithin 65536 4096) c.self.view_is (limited_within g.F.Field.ring g.F.Field.number met.number_nil met.same c.self.inside.rows.items c.self.invariant)

pub returns-clause-value : goal.returns-clause-value
returns-clause-value g c =
    let R = g.F.Field.ring in
    let met = g.met.F.Field in
    let rows : List (List g.row.F.Denot) = c.self.inside.rows.items in
    let end : length rows ≤ c.rows.j = omega (arith, c.self.inside.rows.ok.0) in
    list_same R (coefficients R c.deref.result.now) (λ j. coefficient R c.args.self.now 0 j) c.in_ok-from.field-0
    (λ k.
    ap (λ (t : List g.row.F.Denot). coefficients R t k) c.deref.ensures.value
    ∙ filled_all R (λ j. cell R rows 0 j) c.rows.j c.rows.column.items c.rows.invariant (λ j l. cell_past R rows 0 j (omega arith)) k
    ∙ sym (coefficient_is R g.F.Field.number met.number_nil met.same rows c.args.self.now c.self.view_is 0 k))
    c.in_ok-from.ensures
