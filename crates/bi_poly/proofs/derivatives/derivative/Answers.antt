use Rattle.std.proofs.Common.{◌≡◌, ◌-◌, ℕ, suc, if◌then◌else◌, List, length, sym, ap, ap₂, ◌∙◌, arith}
use Rattle.algebra.specs.Binomials.{has_bits}
use Rattle.algebra.specs.Lists.{coefficients}
use Rattle.algebra.proofs.Horner.{nested_from, nested_from-end, nested_from-step, nested_from-stop, nested_from-weights}
use Rattle.uni_poly.proofs.Filling.{read_at}
use Rattle.bi_poly.proofs.derivatives.derivative.Goals as goal

pub coefficients-init : goal.coefficients-init
coefficients-init g c =
    let R = g.F.Field.ring in
    let xs : List g.row.F.Denot = c.args.coefs.now in
    record {
      value = c.zero-value.ensures ∙ sym (nested_from-end R (length xs) (λ i. if has_bits i c.args.u then coefficients R xs i else R.nil) c.args.a (length xs) (omega arith));
      place = λ l. absurd (omega arith);
      products = omega arith;
    }

pub coefficients-preserved : goal.coefficients-preserved
coefficients-preserved g c =
    let R = g.F.Field.ring in
    let i : ℕ = c.coefficients.i - 1 in
    let next : c.coefficients.i ≡ suc i = omega arith in
    let xs : List g.row.F.Denot = c.args.coefs.now in
    let p : ℕ → g.row.F.Denot = λ k. if has_bits k c.args.u then coefficients R xs k else R.nil in
    record {
      value =
          c.add-value.ensures
          ∙ ap₂ R.plus
          (c.mul.ensures.value ∙ ap (λ v. R.times v c.args.a) (c.coefficients.invariant.value ∙ ap (nested_from R (length xs) p c.args.a) next))
          (c.where_odd.ensures ∙ ap (λ x. if has_bits i c.args.u then x else R.nil) (read_at R xs i c.index-coefs-i.result (omega arith) c.index-coefs-i.is))
          ∙ sym (nested_from-step R (length xs) p c.args.a i (omega arith));
      place = λ l. omega arith;
      products = omega (arith, c.mul.ensures.ticks);
    }

pub returns-clause-value : goal.returns-clause-value
returns-clause-value g c =
    let R = g.F.Field.ring in
    let xs : List g.row.F.Denot = c.args.coefs.now in
    let p : ℕ → g.row.F.Denot = coefficients R xs in
    c.coefficients.invariant.value
    ∙ nested_from-stop R (length xs) (λ i. if has_bits i c.args.u then p i else R.nil) c.args.a c.coefficients.i c.args.u (omega arith) c.coefficients.invariant.place
    ∙ nested_from-weights R (length xs) c.args.u p c.args.a
