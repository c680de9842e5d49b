use Rattle.gs_koetter.proofs.Beginning.{zeros_at}
use Rattle.gs_koetter.proofs.koetter.zero_curve.Goals as goal

pub returns-clause-zeros : goal.returns-clause-zeros
returns-clause-zeros g c = zeros_at g.F.Field.ring _ c.in_ok-list.list.items c.in_ok-list.ensures
