use Rattle.algebra.proofs.Stretch.{shift_gives}
use Rattle.algebra.proofs.laws.laws_of_shifts.Goals as goal

pub returns : goal.returns
returns g c = λ R. shift_gives R
