use Rattle.std.proofs.Common.{◌≡◌, inl, inr, ℕ, List, [], get_or, sym, ap, ◌∙◌, arith}
use Rattle.std.proofs.lemmas.Bool.{cases_lt}
use Rattle.std.proofs.lemmas.List.{get_or_default}
use Rattle.algebra.specs.Lists.{coefficients}
use Rattle.bi_poly.specs.Rows.{cell}
use Rattle.bi_poly.proofs.stripping.least_power.Goals as goal

pub rows-preserved : goal.rows-preserved
rows-preserved g c =
    let R = g.F.Field.ring in
    let rows = c.args.rows.now in
    let j : ℕ = c.rows.j in
    let least : ℕ = c.first_power-least.result in
    let row : c.as_slice.result.now ≡ get_or rows j [] = c.as_slice.ensures ∙ c.index-rows-j.is ∙ get_or_default rows j c.index-rows-j.result [] (omega arith) in
    let at : (i : ℕ) → coefficients R c.as_slice.result.now i ≡ cell R rows i j = λ i. ap (λ (t : List g.row.F.Denot). coefficients R t i) row in
    record {
      zeros = λ i h l m. elim (cases_lt h j) [
        | inl k ↦ c.rows.invariant.zeros i h k (omega (arith, c.first_power-least.ensures.within))
        | inr k ↦ let here : h ≡ j = omega arith in ap (cell R rows i) here ∙ sym (at i) ∙ c.first_power-least.ensures.zeros i m
      ];
      reached = λ l. elim (cases_lt least c.rows.least) [
        | inl k ↦ (j, λ z. c.first_power-least.ensures.reached k (at least ∙ z))
        | inr k ↦
            let same : least ≡ c.rows.least = omega (arith, c.first_power-least.ensures.within) in
            let w = c.rows.invariant.reached (omega arith) in
            (w.0, λ z. w.1 (ap (λ t. cell R rows t w.0) (sym same) ∙ z))
      ];
      within = omega (arith, c.first_power-least.ensures.within, c.rows.invariant.within);
    }
