use Rattle.root_terms.proofs.Numbers.{same_digits}
use Rattle.root_terms.proofs.laws.laws_of_numbers.Goals as goal

pub returns : goal.returns
returns g c = λ R digit size none exact below xs ys e i. same_digits R digit none exact size below xs ys e i
