use Rattle.std.proofs.Common.{◌+◌, [], None, sym, subst, arith}
use Rattle.term_lists.specs.Extended.{IsExtended}
use Rattle.term_lists.proofs.Pushed.{extended_push}
use Rattle.gs_koetter.specs.Results.{IsBegun}
use Rattle.gs_koetter.proofs.Beginning.{next_power}
use Rattle.gs_koetter.proofs.koetter.first_curves.Goals as goal

pub powers-preserved : goal.powers-preserved
powers-preserved g c =
    let R = g.F.Field.ring in
    let frame = c.args.frame.now in
    let next = next_power frame.terms.w c.powers.j frame.terms.some_weight in
    record {
      begun = subst (IsExtended (IsBegun R frame.terms.w frame.terms.e frame.orders.e) None [] (c.powers.j + 1)) (sym c.in_ok-push.ensures.items)
          (extended_push (IsBegun R frame.terms.w frame.terms.e frame.orders.e) None [] c.powers.j c.powers.curves.items _ c.powers.invariant.begun c.in_ok-first_curve.ensures);
      at = omega (arith, next, c.powers.invariant.at);
    }
