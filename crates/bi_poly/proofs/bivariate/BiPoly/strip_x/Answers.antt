use Rattle.std.proofs.Common.{◌≡◌, ◌≢◌, inl, inr, ℕ, ◌+◌, ◌<◌, ◌≤◌, List, None, sym, ap, subst, ◌∙◌, arith}
use Rattle.std.specs.FinMap.{get}
use Rattle.std.proofs.lemmas.Bool.{cases_lt}
use Rattle.algebra.specs.Bivariate.{Bivariate, IsProper, x_power}
use Rattle.algebra.proofs.Entries.{greatest_reached}
use Rattle.bi_poly.specs.Rows.{cell, polynomial_of}
use Rattle.bi_poly.specs.Results.{IsPowerOfX, kept}
use Rattle.bi_poly.proofs.Cells.{proper_polynomial, get_cell, get_nonzero, nonzero_get}
use Rattle.bi_poly.proofs.bivariate.BiPoly.strip_x.Goals as goal

pub returns-clause-proper : goal.returns-clause-proper
returns-clause-proper g c =
    let met = g.met.F.Field in
    subst (IsProper g.F.Field.ring) c.self.view_is (proper_polynomial g.F.Field.ring g.F.Field.number met.number_nil met.same c.self.inside.rows.items)

pub returns-clause-power : goal.returns-clause-power
returns-clause-power g c =
    let R = g.F.Field.ring in
    let met = g.met.F.Field in
    let number : g.row.F.Denot → ℕ = g.F.Field.number in
    let rows = c.self.inside.rows.items in
    let q : Bivariate g.row.F.Denot = polynomial_of number rows in
    let r : ℕ = c.least_power-power.result in
    let zeros : (i j : ℕ) → i < r → cell R rows i j ≡ R.nil = λ i j l.
    ap (λ (t : List (List g.row.F.Denot)). cell R t i j) (sym c.deref.ensures.value) ∙ c.least_power-power.ensures.zeros i j l in
    let divides : (i j : ℕ) → get q (i, j) ≢ None → r ≤ i = λ i j o.
    elim (cases_lt i r) [ inl l ↦ absurd (nonzero_get R number met.number_nil met.same rows i j o (zeros i j l)) | inr l ↦ l ] in
    let some = greatest_reached x_power q (λ e. c.requires (sym c.self.view_is ∙ e)) in
    let low : some.0 < 65536 =
    elim (cases_lt some.0 65536) [ inl l ↦ l | inr l ↦ absurd (nonzero_get R number met.number_nil met.same rows some.0 some.1 some.2 (c.self.invariant.x some.0 some.1 l)) ] in
    let least : r ≤ some.0 = divides some.0 some.1 some.2 in
    let w = c.least_power-power.ensures.reached (omega arith) in
    subst (IsPowerOfX r) c.self.view_is (record {
      divides = divides;
      row = w.0;
      reached = get_nonzero R number met.number_nil met.same rows r w.0 (λ z. w.1 (ap (λ (t : List (List g.row.F.Denot)). cell R t r w.0) c.deref.ensures.value ∙ z));
    })

pub returns-clause-divided : goal.returns-clause-divided
returns-clause-divided g c i j =
    let R = g.F.Field.ring in
    let met = g.met.F.Field in
    let number : g.row.F.Denot → ℕ = g.F.Field.number in
    let r : ℕ = c.least_power-power.result in
    get_cell R number met.number_nil met.same c.drop_powers.new.rows.items i j
    ∙ ap (kept number) (c.drop_powers.ensures i j)
    ∙ sym (get_cell R number met.number_nil met.same c.self.inside.rows.items (i + r) j)
    ∙ ap (λ (q : Bivariate g.row.F.Denot). get q (i + r, j)) c.self.view_is
