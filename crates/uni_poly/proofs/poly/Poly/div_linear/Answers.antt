use Rattle.std.proofs.Common.{◌≡◌, ◌-◌, ℕ, suc, length, sym, ap, ap₂, subst, ◌∙◌, arith}
use Rattle.std.proofs.lemmas.List.{length-set}
use Rattle.uni_poly.specs.Division.{IsDivision}
use Rattle.algebra.specs.Lists.{coefficients}
use Rattle.algebra.proofs.Horner.{nested_from-end, nested_from-step}
use Rattle.uni_poly.proofs.Horner.{value_from, division_of}
use Rattle.uni_poly.proofs.Filling.{read_at, written_at}
use Rattle.uni_poly.proofs.poly.Poly.div_linear.Goals as goal

pub coefficients-init : goal.coefficients-init
coefficients-init g c =
    let R = g.F.Field.ring in
    record {
      count = omega (arith, c.in_ok-quotient.ensures.count);
      quotient = λ k l. c.in_ok-quotient.ensures.each k ∙ sym (nested_from-end R (length c.as_slice-coefs.result.now) (coefficients R c.as_slice-coefs.result.now) c.args.a (suc k) (omega arith));
      rest = c.zero-rest.ensures ∙ sym (nested_from-end R (length c.as_slice-coefs.result.now) (coefficients R c.as_slice-coefs.result.now) c.args.a (length c.as_slice-coefs.result.now) (omega arith));
      products = omega arith;
    }

pub coefficients-preserved : goal.coefficients-preserved
coefficients-preserved g c =
    let R = g.F.Field.ring in
    let i : ℕ = c.coefficients.i - 1 in
    let next : c.coefficients.i ≡ suc i = omega arith in
    let rest : c.coefficients.rest ≡ value_from R c.as_slice-coefs.result.now c.args.a (suc i) =
    c.coefficients.invariant.rest ∙ ap (value_from R c.as_slice-coefs.result.now c.args.a) next in
    record {
      count = length-set c.coefficients.quotient.items i c.coefficients.rest ∙ c.coefficients.invariant.count;
      quotient =
          written_at R (λ k. value_from R c.as_slice-coefs.result.now c.args.a (suc k)) c.coefficients.quotient.items i c.coefficients.rest
          (omega (arith, c.coefficients.invariant.count)) (λ k l. c.coefficients.invariant.quotient k (omega arith)) rest;
      rest =
          c.add-rest.ensures
          ∙ ap₂ R.plus
          (c.mul.ensures.value ∙ ap (λ v. R.times v c.args.a) rest)
          (read_at R c.as_slice-coefs.result.now i c.index-coefs-i.result (omega arith) c.index-coefs-i.is)
          ∙ sym (nested_from-step R (length c.as_slice-coefs.result.now) (coefficients R c.as_slice-coefs.result.now) c.args.a i (omega arith));
      products = omega (arith, c.mul.ensures.ticks);
    }

pub returns-clause-value : goal.returns-clause-value
returns-clause-value g c =
    let R = g.F.Field.ring in
    let start : c.coefficients.i ≡ 0 = omega arith in
    subst (λ xs. IsDivision R xs c.args.a c.over.result c.coefficients.rest) c.as_slice-coefs.ensures.value
    (division_of R c.as_slice-coefs.result.now c.args.a c.coefficients.quotient.items c.over.result c.coefficients.rest
    (λ k. c.coefficients.invariant.quotient k (omega arith))
    (c.coefficients.invariant.rest ∙ ap (value_from R c.as_slice-coefs.result.now c.args.a) start)
    c.over.ensures)
