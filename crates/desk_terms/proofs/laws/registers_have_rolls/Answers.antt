use Rattle.desk_terms.proofs.Rolls.{roll_of-is_roll}
use Rattle.desk_terms.proofs.laws.registers_have_rolls.Goals as goal

pub returns : goal.returns
returns c = roll_of-is_roll
