use Rattle.std.proofs.Common.{sym, ◌∙◌, ap}
use Rattle.std.specs.Option.{unwrap_or}
use Rattle.gs_koetter.proofs.Zeros.{nonzero_is, read}
use Rattle.gs_koetter.proofs.cancelling.length_at.Goals as goal

pub returns-else-eq-clause-some : goal.returns-else-eq-clause-some
returns-else-eq-clause-some g c n e =
    let R = g.F.Field.ring in
    let met = g.met.F.Field in (
      c.in-Some.curve,
      c.in-Some.is,
      (λ z. nonzero_is R g.F.Field.number met.same g.F.PartialEq.eq met.equal c.eq.result c.index.result.now c.zero.result c.if-eq.false c.eq.ensures c.zero.ensures
          (read R g.F.Field.number met.same g.F.PartialEq.eq met.equal c.in-Some.curve.list.items c.args.place c.index.result.now (c.requires c.in-Some.curve c.in-Some.is) c.index.ensures ∙ z)),
      sym (ap (λ o. unwrap_or o n) e),
    )
