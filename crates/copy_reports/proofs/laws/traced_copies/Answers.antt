use Rattle.copy_reports.proofs.Traced.{explained_traced, packaged_traced}
use Rattle.copy_reports.proofs.laws.traced_copies.Goals as goal

pub returns : goal.returns
returns c = record { explained = explained_traced; packaged = packaged_traced }
