use Rattle.std.proofs.Common.{◌≡◌, ℕ, ◌+◌, ◌≤◌, List, sym, ap, ap₂, subst, ◌∙◌, arith}
use Rattle.algebra.specs.Roots.{total}
use Rattle.algebra.specs.Bivariate.{Bivariate, coefficient, greatest, x_power_at}
use Rattle.bi_poly.specs.Rows.{cell}
use Rattle.bi_poly.proofs.Adding.{AreAdded, added_rows}
use Rattle.bi_poly.proofs.Cells.{same_polynomial, coefficient_cell, map_of}
use Rattle.bi_poly.proofs.Heights.{IsHeight, total_height, nil_past_row, empty_height}
use Rattle.bi_poly.proofs.Outcomes.{on_err}
use Rattle.bi_poly.proofs.bivariate.BiPoly.add_multiple.Goals as goal

pub returns-in_err-grow_rows-clause-err : goal.returns-in_err-grow_rows-clause-err
returns-in_err-grow_rows-clause-err g c =
    let met = g.met.F.Field in
    on_err c.from_residual.result
    (same_polynomial g.F.Field.ring g.F.Field.number met.number_nil met.same c.grow_rows.new.rows.items c.self.inside.rows.items c.grow_rows.ensures.same ∙ c.self.view_is)

pub returns-in_err-grow_all-clause-err : goal.returns-in_err-grow_all-clause-err
returns-in_err-grow_all-clause-err g c =
    let met = g.met.F.Field in
    on_err c.from_residual-in_err-grow_all.result
    (same_polynomial g.F.Field.ring g.F.Field.number met.number_nil met.same c.grow_all.new.rows.items c.self.inside.rows.items
    (λ i j. c.grow_all.ensures.same i j ∙ c.grow_rows.ensures.same i j)
    ∙ c.self.view_is)

pub returns-clause-ok : goal.returns-clause-ok
returns-clause-ok g c =
    let R = g.F.Field.ring in
    let met = g.met.F.Field in
    let number : g.row.F.Denot → ℕ = g.F.Field.number in
    let rows = c.self.inside.rows.items in
    let others = c.other.inside.rows.items in
    let n : ℕ = c.height-height.result in
    let added : AreAdded R number met.number_nil met.same c.grow_all.new.rows.items others c.args.factor n c.add_rows.new.rows.items =
    subst (λ (t : List (List g.row.F.Denot)). AreAdded R number met.number_nil met.same c.grow_all.new.rows.items t c.args.factor n c.add_rows.new.rows.items) c.deref-3.ensures.value
    (record { sums = c.add_rows.ensures.sums; rest = c.add_rows.ensures.same }) in
    let none : (i j : ℕ) → n ≤ j → cell R others i j ≡ R.nil = λ i j l.
    ap (λ (t : List (List g.row.F.Denot)). cell R t i j) (sym c.deref.ensures.value) ∙ c.height-height.ensures.zeros i j l in
    map_of R number met.number_nil met.same c.add_rows.new.rows.items
    (λ i j. R.plus (coefficient R c.args.self.now i j) (R.times c.args.factor (coefficient R c.args.other.now i j)))
    (λ i j.
    added_rows R number met.number_nil met.same c.grow_all.new.rows.items others c.add_rows.new.rows.items c.args.factor n added none i j
    ∙ ap₂ (λ s t. R.plus s (R.times c.args.factor t))
    (c.grow_all.ensures.same i j
    ∙ c.grow_rows.ensures.same i j
    ∙ sym (coefficient_cell R number met.number_nil met.same rows i j)
    ∙ ap (λ (q : Bivariate g.row.F.Denot). coefficient R q i j) c.self.view_is)
    (sym (coefficient_cell R number met.number_nil met.same others i j) ∙ ap (λ (q : Bivariate g.row.F.Denot). coefficient R q i j) c.other.view_is))

pub returns-clause-products : goal.returns-clause-products
returns-clause-products g c =
    let R = g.F.Field.ring in
    let met = g.met.F.Field in
    let number : g.row.F.Denot → ℕ = g.F.Field.number in
    let others = c.other.inside.rows.items in
    let q : Bivariate g.row.F.Denot = c.args.other.now in
    let most : ℕ → ℕ = λ j. greatest (x_power_at j) q + 1 in
    let tall : IsHeight R others c.height-height.result =
    subst (λ (t : List (List g.row.F.Denot)). IsHeight R t c.height-height.result) c.deref.ensures.value (record { zeros = c.height-height.ensures.zeros; last = c.height-height.ensures.last }) in
    let few : c.add_rows.new.prods ≤ c.args.prods.now + total c.height-height.result most =
    c.add_rows.ensures.products most (λ i j l.
    ap (λ (t : List (List g.row.F.Denot)). cell R t i j) c.deref-3.ensures.value
    ∙ nil_past_row R number met.number_nil met.same met.field others q j i c.other.view_is l) in
    omega (arith, total_height R number met.number_nil met.same others q c.height-height.result most c.other.view_is tall)

pub returns-clause-none : goal.returns-clause-none
returns-clause-none g c z =
    let R = g.F.Field.ring in
    let met = g.met.F.Field in
    let tall : IsHeight R c.other.inside.rows.items c.height-height.result =
    subst (λ (t : List (List g.row.F.Denot)). IsHeight R t c.height-height.result) c.deref.ensures.value (record { zeros = c.height-height.ensures.zeros; last = c.height-height.ensures.last }) in
    c.add_rows.ensures.none (empty_height R g.F.Field.number met.number_nil met.same c.other.inside.rows.items c.height-height.result tall (c.other.view_is ∙ z))
