use Rattle.system_terms.proofs.Ranks.{zeros_rank, one_rank}
use Rattle.system_terms.proofs.ranks_of_small_systems.Goals as goal

pub returns : goal.returns
returns g c = record { zeros = zeros_rank; one = one_rank }
