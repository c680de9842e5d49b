use Rattle.std.proofs.Common.{◌+◌, ◌*◌, ◌∙◌, ap, subst, arith}
use Rattle.algebra.specs.Lists.{coefficients}
use Rattle.term_lists.specs.declared.exponents.Exponents.{Exponents}
use Rattle.term_lists.specs.Places.{AreTermsBelow, place}
use Rattle.term_lists.proofs.Ordered.{place_below}
use Rattle.gs_koetter.proofs.derivatives.pick.Goals as goal

pub returns-clause-each : goal.returns-clause-each
returns-clause-each g c u v l =
    let m = c.args.orders.now in
    let below : AreTermsBelow 1 m.e m.terms.items = subst (λ n. AreTermsBelow n m.e m.terms.items) c.requires.by_one m.terms_are in
    let inside = place_below 1 m.e u v (omega arith) (omega (arith, l)) in
    c.orders.invariant.done (place 1 u v) (omega (arith, inside, below.count, c.orders-test.false))
    ∙ ap (λ (t : Exponents). coefficients g.F.Field.ring c.args.table.now (t.y * m.e + t.x)) (below.every u v (omega (arith, l)))
