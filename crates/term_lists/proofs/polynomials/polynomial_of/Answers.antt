use Rattle.std.proofs.Common.{◌≡◌, ◌+◌, ◌<◌, length, sym, ◌∙◌, ap, subst, arith}
use Rattle.std.proofs.lemmas.List.{get_or_default}
use Rattle.algebra.specs.Lists.{coefficients}
use Rattle.bi_poly.specs.Results.{with_coefficient}
use Rattle.term_lists.specs.Places.{exponents_at}
use Rattle.term_lists.specs.Polynomials.{HasTerms}
use Rattle.term_lists.proofs.Derivatives.{none_yet, one_more}
use Rattle.term_lists.proofs.polynomials.polynomial_of.Goals as goal

pub terms-init : goal.terms-init
terms-init g c =
    subst (HasTerms g.F.Field.ring c.args.terms.now c.args.coefs.now 0) (sym c.zero-q.ensures)
    (none_yet g.F.Field.ring g.F.Field.number g.met.F.Field.number_nil g.met.F.Field.same c.args.terms.now c.args.coefs.now c.requires.different)

pub terms-preserved : goal.terms-preserved
terms-preserved g c =
    let inside : c.terms.k < length c.args.terms.now = omega (arith, c.terms-test.true, c.requires.few) in
    let more = one_more g.F.Field.ring g.F.Field.number g.met.F.Field.number_nil g.met.F.Field.same c.args.terms.now c.args.coefs.now c.requires.different c.terms.k c.terms.q inside c.terms.invariant in
    let value : c.index-coefs-k.result ≡ coefficients g.F.Field.ring c.args.coefs.now c.terms.k = c.index-coefs-k.is ∙ get_or_default c.args.coefs.now c.terms.k c.index-coefs-k.result g.F.Field.ring.nil c.terms-test.true in
    let term = exponents_at c.args.terms.now c.terms.k in
    subst (HasTerms g.F.Field.ring c.args.terms.now c.args.coefs.now (c.terms.k + 1))
    (sym (c.in_ok-set.ensures.ok ∙ ap (with_coefficient g.F.Field.number c.terms.q term.x term.y) value)) more
