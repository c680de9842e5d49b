use Rattle.std.proofs.Common.{arith}
use Rattle.gs_koetter.proofs.Deriving.{slot_is}
use Rattle.gs_koetter.proofs.Pivots.{inside_some}
use Rattle.gs_koetter.proofs.koetter.first_kept.Goals as goal

pub returns-clause-none : goal.returns-clause-none
returns-clause-none g c e j d is = let inside = inside_some c.args.curves.now j d is in c.curves.invariant j d (omega (arith, inside, c.curves-test.false)) is

pub returns-in-Some-clause-some : goal.returns-in-Some-clause-some
returns-in-Some-clause-some g c = (c.in-Some._curve, slot_is c.args.curves.now c.curves.p c.in-Some._curve c.index-curves-p.result c.curves-test.true c.index-curves-p.is c.in-Some.is)
