use Rattle.std.proofs.Common.{length}
use Rattle.gs_koetter.proofs.expanding.+expand.Given as goal

abbrev pub decreases-expand : goal.decreases-expand
decreases-expand g l = length l.squares.now
