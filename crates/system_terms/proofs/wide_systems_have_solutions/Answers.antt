use Rattle.system_terms.proofs.Kernel.{kernel}
use Rattle.system_terms.proofs.wide_systems_have_solutions.Goals as goal

pub returns : goal.returns
returns g c = λ R field m n a wide. let k = kernel R field m n a wide in (k.vector, k.solves, λ zero. k.differs (zero k.place k.inside))
