use Rattle.std.proofs.Common.{◌≡◌, ◌-◌, ◌<◌, ℕ, suc, List, [], length, get_or, ap, subst, ◌∙◌, arith}
use Rattle.std.proofs.lemmas.List.{get_or_default}
use Rattle.algebra.specs.Lists.{coefficients, IsListOf}
use Rattle.bi_poly.proofs.SubstitutedRows.{substituted_from, no_rows_substituted, row_substituted, all_substituted, list_same, row_series}
use Rattle.bi_poly.proofs.bivariate.BiPoly.substitute.Goals as goal

pub rows-init : goal.rows-init
rows-init g c =
    let R = g.F.Field.ring in
    let rows : List (List g.row.F.Denot) = c.self.inside.rows.items in
    let f : ℕ → g.row.F.Denot = coefficients R c.args.f.now in
    let all : length rows ≡ c.len-j.result = omega (arith, c.self.inside.rows.ok.0) in
    subst (λ n. IsListOf R (substituted_from R rows f n) c.in_ok-value.value) all (no_rows_substituted R rows f c.in_ok-value.value c.in_ok-value.ensures)

pub rows-preserved : goal.rows-preserved
rows-preserved g c =
    let R = g.F.Field.ring in
    let rows : List (List g.row.F.Denot) = c.self.inside.rows.items in
    let f : ℕ → g.row.F.Denot = coefficients R c.args.f.now in
    let j : ℕ = c.rows.j - 1 in
    let next : c.rows.j ≡ suc j = omega arith in
    let inside : j < length rows = omega (arith, c.self.inside.rows.ok.0) in
    let row : c.as_slice.result.now ≡ get_or rows j [] = c.as_slice.ensures ∙ c.index.ensures ∙ get_or_default rows j c.index.result.now [] inside in
    row_substituted R rows f j c.rows.value c.in_ok-mul.field-0 c.in_ok-row.row c.in_ok-value-2.value inside
    (subst (λ n. IsListOf R (substituted_from R rows f n) c.rows.value) next c.rows.invariant)
    c.in_ok-mul.ensures.value
    (list_same R (coefficients R c.as_slice.result.now) (row_series R rows j) c.in_ok-row.row (λ k. ap (λ (t : List g.row.F.Denot). coefficients R t k) row) c.in_ok-row.ensures)
    c.in_ok-value-2.ensures

pub returns : goal.returns
returns g c =
    let R = g.F.Field.ring in
    let met = g.met.F.Field in
    let rows : List (List g.row.F.Denot) = c.self.inside.rows.items in
    let f : ℕ → g.row.F.Denot = coefficients R c.args.f.now in
    let start : c.rows.j ≡ 0 = omega arith in
    all_substituted R rows f g.F.Field.number met.number_nil met.same c.args.self.now c.self.view_is 65536 c.self.invariant.x c.rows.value
    (subst (λ n. IsListOf R (substituted_from R rows f n) c.rows.value) start c.rows.invariant)
