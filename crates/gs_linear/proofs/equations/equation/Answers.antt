use Rattle.std.proofs.Common.{◌≡◌, ◌+◌, [], sym, ◌∙◌, ap₂, subst, arith}
use Rattle.term_lists.specs.Extended.{IsExtended}
use Rattle.term_lists.specs.Places.{exponents_at}
use Rattle.term_lists.specs.Polynomials.{term_derivative}
use Rattle.term_lists.proofs.Pushed.{extended_push}
use Rattle.gs_linear.proofs.Rows.{whole_row}
use Rattle.gs_linear.proofs.equations.equation.Goals as goal

pub terms-preserved : goal.terms-preserved
terms-preserved g c =
    let R = g.F.Field.ring in
    record {
      entries = λ a b xs ys.
          let value : c.mul.result ≡ term_derivative R a b c.args.order.x c.args.order.y (exponents_at c.args.terms.now c.terms._index) =
          c.mul.ensures.value ∙ ap₂ (λ s t. R.times s t) (c.power_derivative-x.ensures a xs) (c.power_derivative-y.ensures b ys) in
          subst (IsExtended (λ k entry. entry ≡ term_derivative R a b c.args.order.x c.args.order.y (exponents_at c.args.terms.now k)) R.nil [] (c.terms._index + 1)) (sym c.in_ok-push.ensures.items)
          (extended_push (λ k entry. entry ≡ term_derivative R a b c.args.order.x c.args.order.y (exponents_at c.args.terms.now k)) R.nil [] c.terms._index c.terms.row.items c.mul.result (c.terms.invariant.entries a b xs ys) value);
      products = omega (arith, c.mul.ensures.ticks, c.terms.invariant.products);
    }

pub returns-clause-row : goal.returns-clause-row
returns-clause-row g c = λ a b xs ys.
    let R = g.F.Field.ring in
    whole_row R c.args.terms.now a b c.args.order c.terms.row.items
    (subst (λ n. IsExtended (λ k entry. entry ≡ term_derivative R a b c.args.order.x c.args.order.y (exponents_at c.args.terms.now k)) R.nil [] n c.terms.row.items) (omega (arith, c.terms-test.false, c.terms.auto._index-end)) (c.terms.invariant.entries a b xs ys))
