use Rattle.std.proofs.Common.{◌≡◌, ◌-◌, ℕ, suc, length, sym, ap, ap₂, ◌∙◌, arith}
use Rattle.algebra.specs.Series.{value}
use Rattle.algebra.specs.Lists.{coefficients}
use Rattle.algebra.proofs.Horner.{nested_from-end, nested_from-step, nested_from-all}
use Rattle.uni_poly.proofs.Horner.{value_from}
use Rattle.uni_poly.proofs.Filling.{read_at}
use Rattle.uni_poly.proofs.poly.Poly.eval.Goals as goal

pub coefficients-init : goal.coefficients-init
coefficients-init g c = record {
  value = c.zero-value.ensures ∙ sym (nested_from-end g.F.Field.ring (length c.as_slice-coefs.result.now) (coefficients g.F.Field.ring c.as_slice-coefs.result.now) c.args.at (length c.as_slice-coefs.result.now) (omega arith));
  products = omega arith;
}

pub coefficients-preserved : goal.coefficients-preserved
coefficients-preserved g c =
    let R = g.F.Field.ring in
    let i : ℕ = c.coefficients.i - 1 in
    let next : c.coefficients.i ≡ suc i = omega arith in
    record {
      value =
          c.add-value.ensures
          ∙ ap₂ R.plus
          (c.mul.ensures.value ∙ ap (λ v. R.times v c.args.at) (c.coefficients.invariant.value ∙ ap (value_from R c.as_slice-coefs.result.now c.args.at) next))
          (read_at R c.as_slice-coefs.result.now i c.index-coefs-i.result (omega arith) c.index-coefs-i.is)
          ∙ sym (nested_from-step R (length c.as_slice-coefs.result.now) (coefficients R c.as_slice-coefs.result.now) c.args.at i (omega arith));
      products = omega (arith, c.mul.ensures.ticks);
    }

pub returns-clause-value : goal.returns-clause-value
returns-clause-value g c =
    let R = g.F.Field.ring in
    let start : c.coefficients.i ≡ 0 = omega arith in
    c.coefficients.invariant.value
    ∙ ap (value_from R c.as_slice-coefs.result.now c.args.at) start
    ∙ nested_from-all R (length c.as_slice-coefs.result.now) (coefficients R c.as_slice-coefs.result.now) c.args.at
    ∙ ap (λ xs. value R (length xs) (coefficients R xs) c.args.at) c.as_slice-coefs.ensures.value
