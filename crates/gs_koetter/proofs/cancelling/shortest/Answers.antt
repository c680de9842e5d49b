use Rattle.std.proofs.Common.{◌≡◌, ◌+◌, None, sym, ◌∙◌, ap, subst}
use Rattle.std.specs.Option.{unwrap_or}
use Rattle.std.proofs.lemmas.List.{get_or_default}
use Rattle.gs_koetter.specs.Shapes.{IsPivot, slot}
use Rattle.gs_koetter.proofs.Pivots.{SoFar, better_more, pivot_found}
use Rattle.gs_koetter.proofs.cancelling.shortest.Goals as goal

pub curves-preserved : goal.curves-preserved
curves-preserved g c =
    let R = g.F.Field.ring in
    let here : c.index-curves-j.result ≡ slot c.args.curves.now c.curves.j = c.index-curves-j.is ∙ get_or_default c.args.curves.now c.curves.j c.index-curves-j.result None c.curves-test.true in
    subst (SoFar R c.args.place c.args.curves.now (c.curves.j + 1)) (sym c.better-best.ensures)
    (better_more R c.args.place c.args.curves.now c.curves.j c.curves.best c.length_at.result c.curves.invariant
    (λ e d there. c.length_at.ensures.none e d (here ∙ there))
    (λ n e. let found = c.length_at.ensures.some n e in (found.0, sym here ∙ found.1, found.2, found.3)))

pub returns-clause-some : goal.returns-clause-some
returns-clause-some g c p e =
    subst (IsPivot g.F.Field.ring c.args.place c.args.curves.now) (ap (λ o. unwrap_or o p) e)
    (pivot_found g.F.Field.ring c.args.place c.args.curves.now c.curves.j c.in_ok-best.field-0 c.curves-test.false
    (subst (SoFar g.F.Field.ring c.args.place c.args.curves.now c.curves.j) c.in_ok-best.was c.curves.invariant))
