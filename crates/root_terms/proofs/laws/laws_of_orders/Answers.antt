use Rattle.root_terms.proofs.Orders.{ordered}
use Rattle.root_terms.proofs.laws.laws_of_orders.Goals as goal

pub returns : goal.returns
returns g c = λ R digit size none exact below number root q k lists entries sorted all numbered shuffled rising.
    ordered R digit size number root none exact below q k lists entries sorted all numbered shuffled rising
