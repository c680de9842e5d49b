use Rattle.std.proofs.Common.{◌≡◌, ◌≢◌, ◌+◌, ◌-◌, ◌*◌, ◌<◌, ◌≤◌, ℕ, rules, length, get_or, map, refl, ◌∙◌, sym, ap, subst, arith}
use Rattle.std.proofs.lemmas.List.{length-map}
use Rattle.algebra.specs.Lists.{coefficients}
use Rattle.system_terms.specs.Systems.{OnlyZeroSolves, Solves}
use Rattle.system_terms.proofs.Kernel.{kernel}
use Rattle.linear_solve.specs.Tables.{entries}
use Rattle.linear_solve.specs.Pivots.{rows_of, columns_of}
use Rattle.linear_solve.proofs.Products.{within, within_alone}
use Rattle.linear_solve.proofs.OnlyZero.{only_zero}
use Rattle.linear_solve.proofs.matrix.Matrix.kernel.Goals as goal

pub returns-in_default-clause-none : goal.returns-in_default-clause-none
returns-in_default-clause-none g c =
    let R = g.F.Field.ring in
    let none : (k : ℕ) → k < c.self.inside.columns → ((j : ℕ) → j < length c.in_ok-pivots.pivots.items → get_or (columns_of c.in_ok-pivots.pivots.items) j 0 ≢ k) → ⊥ =
    subst (λ t. (k : ℕ) → k < c.self.inside.columns → ((j : ℕ) → j < length t → get_or (columns_of t) j 0 ≢ k) → ⊥) c.deref.ensures.value (c.in_default.ensures.none refl) in
    let only = only_zero R g.met.F.Field.field c.self.inside.columns c.in_ok-pivots.pivots.items c.in_ok-pivots.ensures.pivots none (map (λ row. row.items) c.self.inside.rows.items) c.in_ok-pivots.ensures.solutions in
    (λ h. subst (λ t. OnlyZeroSolves R (length t.rows) t.columns (entries R t.rows)) c.self.view_is only, λ h. refl)

pub returns-in_default-clause-wide : goal.returns-in_default-clause-wide
returns-in_default-clause-wide g c = λ l h.
    let only = (returns-in_default-clause-none g c).0 h in
    let k = kernel g.F.Field.ring g.met.F.Field.field (length c.args.self.rows) c.args.self.columns (entries g.F.Field.ring c.args.self.rows) l in
    k.differs (only k.vector k.solves k.place k.inside)

pub returns-in_err-pivots-clause-products : goal.returns-in_err-pivots-clause-products
returns-in_err-pivots-clause-products g c =
    let rows = map (λ row. row.items) c.self.inside.rows.items in
    let spent = subst (λ t. c.eliminate.new.prods ≤ c.args.prods.now + t * (1 + (t - 1) * (1 + c.self.inside.columns))) (sym (length-map c.self.inside.rows.items (λ row. row.items))) c.eliminate.ensures.products in
    subst (λ t. c.eliminate.new.prods ≤ c.args.prods.now + 3 * (length t.rows * length t.rows) * t.columns) c.self.view_is
    (within_alone (length rows) c.self.inside.columns c.eliminate.new.prods c.args.prods.now c.self.invariant.some_rows c.self.invariant.some_columns spent)

pub returns-in_default-clause-products : goal.returns-in_default-clause-products
returns-in_default-clause-products g c =
    let rows = map (λ row. row.items) c.self.inside.rows.items in
    let spent = subst (λ t. c.eliminate.new.prods ≤ c.args.prods.now + t * (1 + (t - 1) * (1 + c.self.inside.columns))) (sym (length-map c.self.inside.rows.items (λ row. row.items))) c.eliminate.ensures.products in
    subst (λ t. c.eliminate.new.prods ≤ c.args.prods.now + 3 * (length t.rows * length t.rows) * t.columns) c.self.view_is
    (within_alone (length rows) c.self.inside.columns c.eliminate.new.prods c.args.prods.now c.self.invariant.some_rows c.self.invariant.some_columns spent)

pub returns-in_err-vector-clause-products : goal.returns-in_err-vector-clause-products
returns-in_err-vector-clause-products g c =
    let rows = map (λ row. row.items) c.self.inside.rows.items in
    let spent = subst (λ t. c.eliminate.new.prods ≤ c.args.prods.now + t * (1 + (t - 1) * (1 + c.self.inside.columns))) (sym (length-map c.self.inside.rows.items (λ row. row.items))) c.eliminate.ensures.products in
    let few : length c.deref-2.result.now ≤ length rows = omega (arith, ap length c.deref-2.ensures.value, c.in_ok-pivots.ensures.count, length-map c.self.inside.rows.items (λ row. row.items)) in
    subst (λ t. c.solution.new.prods ≤ c.args.prods.now + 3 * (length t.rows * length t.rows) * t.columns) c.self.view_is
    (within (length rows) c.self.inside.columns (length c.deref-2.result.now) c.eliminate.new.prods c.solution.new.prods c.args.prods.now c.self.invariant.some_rows c.self.invariant.some_columns few spent c.solution.ensures.products)

pub returns-clause-products : goal.returns-clause-products
returns-clause-products g c =
    let rows = map (λ row. row.items) c.self.inside.rows.items in
    let spent = subst (λ t. c.eliminate.new.prods ≤ c.args.prods.now + t * (1 + (t - 1) * (1 + c.self.inside.columns))) (sym (length-map c.self.inside.rows.items (λ row. row.items))) c.eliminate.ensures.products in
    let few : length c.deref-2.result.now ≤ length rows = omega (arith, ap length c.deref-2.ensures.value, c.in_ok-pivots.ensures.count, length-map c.self.inside.rows.items (λ row. row.items)) in
    subst (λ t. c.solution.new.prods ≤ c.args.prods.now + 3 * (length t.rows * length t.rows) * t.columns) c.self.view_is
    (within (length rows) c.self.inside.columns (length c.deref-2.result.now) c.eliminate.new.prods c.solution.new.prods c.args.prods.now c.self.invariant.some_rows c.self.invariant.some_columns few spent c.solution.ensures.products)

pub returns-clause-solves : goal.returns-clause-solves
returns-clause-solves g c =
    let R = g.F.Field.ring in
    let settled : Solves R (length c.in_ok-pivots.pivots.items) c.self.inside.columns (entries R (rows_of c.in_ok-pivots.pivots.items)) (coefficients R c.in_ok-vector.vector.items) =
    subst (λ t. Solves R (length t) c.self.inside.columns (entries R (rows_of t)) (coefficients R c.in_ok-vector.vector.items)) c.deref-2.ensures.value c.in_ok-vector.ensures.solves in
    let all = c.in_ok-pivots.ensures.solutions.back (coefficients R c.in_ok-vector.vector.items) (λ i l. absurd (omega arith)) settled in
    subst (λ x. Solves R (length c.args.self.rows) c.args.self.columns (entries R c.args.self.rows) (coefficients R x)) (sym c.over.ensures)
    (subst (λ t. Solves R (length t.rows) t.columns (entries R t.rows) (coefficients R c.in_ok-vector.vector.items)) c.self.view_is all)

pub returns-clause-none : goal.returns-clause-none
returns-clause-none g c =
    let R = g.F.Field.ring in
    let inside : c.in-Some.free < c.args.self.columns = subst (λ t. c.in-Some.free < t.columns) c.self.view_is c.in-Some.ensures.some.0 in
    let one : coefficients R c.over.result c.in-Some.free ≡ R.unit = ap (λ x. coefficients R x c.in-Some.free) c.over.ensures ∙ c.in_ok-vector.ensures.one in
    (λ h. absurd (search rules), λ only. absurd (g.met.F.Field.field.apart (sym one ∙ only (coefficients R c.over.result) (returns-clause-solves g c) c.in-Some.free inside)))
