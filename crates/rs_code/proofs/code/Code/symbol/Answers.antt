use Rattle.std.proofs.Common.{◌≡◌, ℕ, ◌+◌, ◌-◌, ◌^◌, ◌<◌, sym, ap, ap₂, ◌∙◌, arith}
use Rattle.std.specs.Prelude.{bit_xor}
use Rattle.gf_terms.specs.Arithmetic.{product}
use Rattle.code_terms.specs.Symbols.{symbol_of}
use Rattle.code_terms.proofs.Evaluation.{nested, nested-none, nested-more, nested-symbol_of}
use Rattle.rs_code.proofs.code.Code.symbol.Goals as goal

pub coefficients-init : goal.coefficients-init
coefficients-init g c = record {
  value = ap g.F.Field.number c.zero-value.ensures ∙ g.met.F.Field.number_nil ∙ sym (nested-none _ _ _ _ _ (omega arith));
  products = omega arith;
}

pub coefficients-preserved : goal.coefficients-preserved
coefficients-preserved g c =
    let met = g.met.F.Field in
    let number : g.row.F.Denot → ℕ = g.F.Field.number in
    let some : 0 < c.coefficients.j = omega arith in
    let count : c.self.inside.dimension - c.coefficients.j + 1 ≡ c.self.inside.dimension - (c.coefficients.j - 1) = omega arith in
    record {
      value =
          ap number c.add-value.ensures ∙ met.number_plus c.mul.result c.coefficient.result
          ∙ ap₂ bit_xor
          (ap number c.mul.ensures.value ∙ met.number_times c.coefficients.value c.point-point.result ∙ ap₂ (product g.F.Field.BITS) c.coefficients.invariant.value c.point-point.ensures)
          c.coefficient.ensures
          ∙ sym (nested-more g.F.Field.BITS c.args.message c.args.place c.coefficients.j (c.self.inside.dimension - c.coefficients.j) some)
          ∙ ap (nested g.F.Field.BITS c.args.message c.args.place (c.coefficients.j - 1)) count;
      products = omega (arith, c.mul.ensures.ticks);
    }

pub returns-clause-value : goal.returns-clause-value
returns-clause-value g c =
    let met = g.met.F.Field in
    let start : c.coefficients.j ≡ 0 = omega arith in
    let whole : c.self.inside.dimension - c.coefficients.j ≡ c.self.inside.dimension = omega arith in
    let dimension : c.self.inside.dimension ≡ c.args.self.now.dimension = ap (λ code. code.dimension) c.self.view_is in
    let below : c.args.place < 2 ^ g.F.Field.BITS = omega (arith, met.size, c.requires.place, c.self.invariant.most_places, ap (λ code. code.places) c.self.view_is) in
    c.coefficients.invariant.value
    ∙ ap₂ (nested g.F.Field.BITS c.args.message c.args.place) start whole
    ∙ nested-symbol_of g.F.Field.BITS met.least_bits met.most_bits c.args.message c.args.place c.self.inside.dimension below
    ∙ ap (λ k. symbol_of g.F.Field.BITS k c.args.message c.args.place) dimension
