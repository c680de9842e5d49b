use Rattle.bi_poly.proofs.ShiftedDegrees.{coefficient_of_map}
use Rattle.bi_poly.proofs.laws.laws_of_maps.Goals as goal

pub returns : goal.returns
returns g c = let met = g.met.F.Field in λ p q is i j. coefficient_of_map g.F.Field.ring g.F.Field.number met.number_nil met.same p q is i j
