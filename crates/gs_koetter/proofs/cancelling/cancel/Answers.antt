use Rattle.std.proofs.Common.{◌≡◌, refl, ◌∙◌, sym, arith}
use Rattle.gs_koetter.specs.Shapes.{at_place}
use Rattle.gs_koetter.proofs.Prefixes.{nothing_added}
use Rattle.gs_koetter.proofs.Zeros.{read, zero_is}
use Rattle.gs_koetter.proofs.cancelling.cancel.Goals as goal

pub returns-then-eq-clause-value : goal.returns-then-eq-clause-value
returns-then-eq-clause-value g c =
    let R = g.F.Field.ring in
    let met = g.met.F.Field in
    let zero : at_place R c.args.place c.args.curve.now ≡ R.nil =
    sym (read R g.F.Field.number met.same g.F.PartialEq.eq met.equal c.args.curve.now.list.items c.args.place c.index.result.now (omega (arith, c.requires.inside, c.requires.room.list)) c.index.ensures)
    ∙ zero_is R g.F.Field.number met.same g.F.PartialEq.eq met.equal c.eq.result c.index.result.now c.zero.result c.if-eq.true c.eq.ensures c.zero.ensures in
    record {
      list = nothing_added R (at_place R c.args.place c.args.curve.now) c.args.inverse c.args.pivot.now.list.items c.args.curve.now.list.items zero;
      long = refl;
      orders = refl;
      len = refl;
      exponent = refl;
    }
